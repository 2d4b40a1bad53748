-- Which questions are within the names and the size. Assumes nothing.
use Rattle.std.specs.Prelude.{ℕ, ◌-◌, ◌<◌, ◌≤◌, min, Bool, true, false, cond, ◌&&◌, nat_lt}
use Rattle.std.proofs.Common.{sym, subst, one-add}
use Rattle.std.proofs.Math.Nat.{lt-suc_self, lt_of_le_of_lt, min-le_right, sub-lt_left_of_lt-add}
use Rattle.logic.specs.Text.{names}

-- how many elements a run has at most
abbrev pub most_elements : ℕ
most_elements = 64

-- a name with the digit d
abbrev pub inside0 : ℕ → Bool
inside0 d = nat_lt d names

-- a name with the digit d at the element a, of n elements
abbrev pub inside1 : ℕ → ℕ → ℕ → Bool
inside1 n d a = nat_lt d names && nat_lt a n

-- a name with the digit d at the elements a and b
abbrev pub inside2 : ℕ → ℕ → ℕ → ℕ → Bool
inside2 n d a b = nat_lt d names && (nat_lt a n && nat_lt b n)

-- one of two elements is an element
pub cond_lt : (t : Bool) (x y n : ℕ) → x < n → y < n → cond t x y < n
cond_lt true x y n p q = p
cond_lt false x y n p q = q

-- a number, or the last element, whichever is less
pub min_last_lt : (x n : ℕ) → 1 ≤ n → min x (n - 1) < n
min_last_lt x n some = lt_of_le_of_lt (min-le_right x (n - 1)) (sub-lt_left_of_lt-add some (subst (λ m. n < m) (sym (one-add n)) (lt-suc_self n)))
