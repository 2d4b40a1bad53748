-- Questions inside have their places within a list of entries. Assumes nothing.
use Rattle.std.proofs.Common.{◌≡◌, ℕ, ◌+◌, ◌*◌, ◌<◌, true, ◌&&◌, sym, ◌∙◌, ap₂, mul_assoc, mul_comm, arith}
use Rattle.std.proofs.lemmas.Nat.{mul-add-lt}
use Rattle.std.proofs.lemmas.Bool.{lt-ltb}
use Rattle.logic.specs.Text.{names}
use Rattle.run.specs.Inside.{inside1, inside2}
use Rattle.run.specs.Layout.{entries, place0, place1, place2}

pub inside1_true : (n d a : ℕ) → d < names → a < n → inside1 n d a ≡ true
inside1_true n d a h k = ap₂ ◌&&◌ (lt-ltb d names h) (lt-ltb a n k)

pub inside2_true : (n d a b : ℕ) → d < names → a < n → b < n → inside2 n d a b ≡ true
inside2_true n d a b h k l = ap₂ ◌&&◌ (lt-ltb d names h) (ap₂ ◌&&◌ (lt-ltb a n k) (lt-ltb b n l))

pub place0_lt : (n d : ℕ) → d < names → place0 d < entries n
place0_lt n d h = omega arith

pub place1_lt : (n d a : ℕ) → d < names → a < n → place1 n d a < entries n
place1_lt n d a h k = omega (arith, mul-add-lt d n a names h k)

pub place2_lt : (n d a b : ℕ) → d < names → a < n → b < n → place2 n d a b < entries n
place2_lt n d a b h k l =
    let row = mul-add-lt d n a names h k in
    let square : n * (n * names) ≡ names * (n * n) = sym (mul_assoc n n names) ∙ mul_comm (n * n) names in
    omega (arith, mul-add-lt (d * n + a) n b (n * names) row l, square)
