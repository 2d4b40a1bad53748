-- How a table lists what names answer: first by the digit; then by the digit and an element; then by the digit and two elements.
-- Assumes nothing.
use Rattle.std.specs.Prelude.{ℕ, ◌+◌, ◌*◌, Bool, List, nat_lt}
use Rattle.std.specs.List.{list_all}
use Rattle.logic.specs.Text.{names}

-- how many entries such a list has, of n elements
abbrev pub entries : ℕ → ℕ
entries n = names + names * n + names * (n * n)

-- the place of the digit d, of d at the element a, of d at the elements a and b
abbrev pub place0 : ℕ → ℕ
place0 d = d

abbrev pub place1 : ℕ → ℕ → ℕ → ℕ
place1 n d a = names + (d * n + a)

abbrev pub place2 : ℕ → ℕ → ℕ → ℕ → ℕ
place2 n d a b = names + names * n + ((d * n + a) * n + b)

-- whether each number of the list is below n
abbrev pub all_below : ℕ → List ℕ → Bool
all_below n = list_all (λ x. nat_lt x n)
