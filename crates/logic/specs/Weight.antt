-- The weight of a formula: its values at all assignments joined by `and`. Assumes nothing.
use Rattle.std.specs.Prelude.{◌≡◌, ℕ, zero, suc, ◌↔◌}
use Rattle.logic.specs.Syntax.{Formula}
use Rattle.logic.specs.Text.{names, Named}
use Rattle.logic.specs.Assignment.{assign}
use Rattle.logic.specs.Algebra.{Algebra, AtLeast}
use Rattle.logic.specs.Structure.{Structure}
use Rattle.logic.specs.Value.{meet, value, Into, Holds}

-- f at every assignment that gives elements below the size to the variables below n and is ρ elsewhere, joined by `and`
abbrev pub everywhere : {V : Type 0} → Algebra V → ℕ → ((ℕ → ℕ) → V) → ℕ → (ℕ → ℕ) → V
everywhere A size f zero ρ = f ρ
everywhere A size f (suc n) ρ = meet A (λ e. everywhere A size f n (assign ρ n e)) size

-- element 0 at each variable
abbrev pub zeros : ℕ → ℕ
zeros x = 0

-- the values at all assignments of elements to the variables of the language, joined by `and`
abbrev pub weight : {V : Type 0} → Algebra V → Structure V → Formula → V
weight A M a = everywhere A M.size (λ ρ. value A M ρ a) names zeros

-- What the weight is: the greatest value that the value at each assignment is at least.
pub record Weighed {V : Type 0} (A : Algebra V) (M : Structure V) (a : Formula) : Type 0 where
  pub lower : (ρ : ℕ → ℕ) → Into M ρ → AtLeast A (value A M ρ a) (weight A M a)
  pub greatest : (c : V) → ((ρ : ℕ → ℕ) → Into M ρ → AtLeast A (value A M ρ a) c) → AtLeast A (weight A M a) c
  -- it is top exactly where the formula holds
  pub top : (weight A M a ≡ A.top) ↔ Holds A M a

-- every formula of the grammar, in every structure
abbrev pub WeightMeans : {V : Type 0} → Algebra V → Type 0
WeightMeans {V} A = (M : Structure V) (a : Formula) → Named a → Weighed A M a
