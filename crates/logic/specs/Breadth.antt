-- The breadth of a formula: how many loops finding its weight can take. Assumes nothing.
use Rattle.std.specs.Prelude.{ℕ, zero, suc, ◌+◌, max, cond}
use Rattle.logic.specs.Syntax.{Formula, pred0, pred1, pred2, negation, binary, quantified, free}
use Rattle.logic.specs.Text.{names}

-- how deep the quantifiers nest
abbrev pub nesting : Formula → ℕ
nesting (pred0 p) = 0
nesting (pred1 p s) = 0
nesting (pred2 p s t) = 0
nesting (negation a) = nesting a
nesting (binary k a b) = max (nesting a) (nesting b)
nesting (quantified q x a) = 1 + nesting a

-- how many of the variables below n are free
abbrev pub free_below : ℕ → Formula → ℕ
free_below zero a = 0
free_below (suc n) a = free_below n a + cond (free n a) 1 0

-- the number of different free variables plus the deepest nesting of quantifiers
abbrev pub breadth : Formula → ℕ
breadth a = free_below names a + nesting a
