-- What weighing a formula goes by. Assumes nothing.
use Rattle.std.specs.Prelude.{ℕ}
use Rattle.logic.specs.Syntax.{Formula}
use Rattle.logic.specs.Algebra.{Algebra}
use Rattle.logic.specs.Structure.{Structure}
use Rattle.logic.specs.Value.{value}
use Rattle.logic.specs.Weight.{everywhere}

-- how many cells weighing asks for
abbrev pub cells_wanted : ℕ
cells_wanted = 64

-- the values at all assignments of elements to the variables below n that are ρ elsewhere, joined by `and`
abbrev pub weight_below : {V : Type 0} → Algebra V → Structure V → Formula → ℕ → (ℕ → ℕ) → V
weight_below A M a n ρ = everywhere A M.size (λ σ. value A M σ a) n ρ
