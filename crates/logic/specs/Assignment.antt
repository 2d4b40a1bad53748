-- Numbers given to variables. Assumes nothing.
use Rattle.std.specs.Prelude.{ℕ, cond, List, ◌==◌, slice_index}

-- ρ, but a at x
abbrev pub assign : (ℕ → ℕ) → ℕ → ℕ → ℕ → ℕ
assign ρ x a y = cond (x == y) a (ρ y)

-- the assignment that an array holds, 0 past its end
abbrev pub listed : List ℕ → ℕ → ℕ
listed env x = slice_index env x
