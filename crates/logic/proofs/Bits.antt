-- What the operations on numbers do to each binary digit. Assumes nothing.
use Rattle.std.proofs.Common.{◌≡◌, ℕ, zero, suc, ◌+◌, ◌-◌, ◌/◌, ◌%◌, ◌^◌, ◌<◌, min, max, true, false, not, ◌&&◌, ◌||◌, eqb, refl, ap, ◌∙◌, pow-suc, one-add, arith, pow_pos}
use lib.Bits.{bit_and, bit_or, and_step, or_step, and_shr, or_shr}
use Rattle.std.proofs.lemmas.Nat.{shr-shr}
use Rattle.std.proofs.lemmas.Bool.Decides.{nat_tests}
use Rattle.logic.specs.Bits.{bit}

and_low : (a b : ℕ) → bit_and a b % 2 ≡ min (a % 2) (b % 2)
and_low a b = omega (arith, and_step a b)

or_low : (a b : ℕ) → bit_or a b % 2 ≡ max (a % 2) (b % 2)
or_low a b = omega (arith, or_step a b)

min_and : (x y : ℕ) → x < 2 → y < 2 → eqb (min x y) 1 ≡ (eqb x 1 && eqb y 1)
min_and x y p q = grind (arith, nat_tests)

max_or : (x y : ℕ) → x < 2 → y < 2 → eqb (max x y) 1 ≡ (eqb x 1 || eqb y 1)
max_or x y p q = grind (arith, nat_tests)

flip : (x : ℕ) → x < 2 → eqb (1 - x) 1 ≡ not (eqb x 1)
flip x p = grind (arith, nat_tests)

same_low : (x y : ℕ) → x < 2 → y < 2 → eqb x 1 ≡ eqb y 1 → x ≡ y
same_low x y p q h = grind (arith, nat_tests)

pub bit_bit_and : (k a b : ℕ) → bit (bit_and a b) k ≡ (bit a k && bit b k)
bit_bit_and zero a b = ap (λ n. eqb n 1) (and_low a b) ∙ min_and (a % 2) (b % 2) (omega arith) (omega arith)
bit_bit_and (suc k) a b = ap (λ n. bit n k) (and_shr a b 1) ∙ bit_bit_and k (a / 2) (b / 2)

pub bit_bit_or : (k a b : ℕ) → bit (bit_or a b) k ≡ (bit a k || bit b k)
bit_bit_or zero a b = ap (λ n. eqb n 1) (or_low a b) ∙ max_or (a % 2) (b % 2) (omega arith) (omega arith)
bit_bit_or (suc k) a b = ap (λ n. bit n k) (or_shr a b 1) ∙ bit_bit_or k (a / 2) (b / 2)

-- the complement in w digits
pub bit_not : (k w a : ℕ) → k < w → a < 2 ^ w → bit ((2 ^ w - 1) - a) k ≡ not (bit a k)
bit_not k zero a h l = absurd (omega arith)
bit_not zero (suc w) a h l =
    let lo : ((2 ^ suc w - 1) - a) % 2 ≡ 1 - a % 2 = omega (arith, pow-suc 2 w, pow_pos w) in
    ap (λ n. eqb n 1) lo ∙ flip (a % 2) (omega arith)
bit_not (suc k) (suc w) a h l =
    let hi : ((2 ^ suc w - 1) - a) / 2 ≡ (2 ^ w - 1) - a / 2 = omega (arith, pow-suc 2 w, pow_pos w) in
    ap (λ n. bit n k) hi ∙ bit_not k w (a / 2) (omega arith) (omega (arith, pow-suc 2 w))

pub bit_zero : (k : ℕ) → bit 0 k ≡ false
bit_zero zero = refl
bit_zero (suc k) = bit_zero k

pub bit_ones : (k w : ℕ) → k < w → bit (2 ^ w - 1) k ≡ true
bit_ones k w h = let e : 2 ^ w - 1 ≡ (2 ^ w - 1) - 0 = omega arith in ap (λ n. bit n k) e ∙ bit_not k w 0 h (pow_pos w) ∙ ap not (bit_zero k)

-- past its width a number has no digits
pub bit_past : (k w a : ℕ) → w < k + 1 → a < 2 ^ w → bit a k ≡ false
bit_past k zero a h l = let z : a ≡ 0 = omega arith in rw z (bit_zero k)
bit_past zero (suc w) a h l = absurd (omega arith)
bit_past (suc k) (suc w) a h l = bit_past k w (a / 2) (omega arith) (omega (arith, pow-suc 2 w))

-- numbers of one width with the same digits are one
pub same_bits : (w a b : ℕ) → a < 2 ^ w → b < 2 ^ w → ((k : ℕ) → k < w → bit a k ≡ bit b k) → a ≡ b
same_bits zero a b l m h = omega arith
same_bits (suc w) a b l m h =
    let hi = same_bits w (a / 2) (b / 2) (omega (arith, pow-suc 2 w)) (omega (arith, pow-suc 2 w)) (λ k p. h (suc k) (omega arith)) in
    let lo = same_low (a % 2) (b % 2) (omega arith) (omega arith) (h 0 (omega arith)) in
    omega (arith, hi, lo)

-- a digit as a shift and a mask give it
pub bit_shifted : (k a : ℕ) → bit a k ≡ eqb (a / 2 ^ k % 2) 1
bit_shifted zero a = ap (λ n. eqb (n % 2) 1) (omega arith)
bit_shifted (suc k) a = bit_shifted k (a / 2) ∙ ap (λ n. eqb (n % 2) 1) (half a k)
  where
    half : (a k : ℕ) → a / 2 / 2 ^ k ≡ a / 2 ^ suc k
    half a k = shr-shr a 1 k ∙ ap (λ e. a / 2 ^ e) (one-add k)
