-- The value of a formula in a structure. Assumes nothing.
use Rattle.std.specs.Prelude.{◌≡◌, ℕ, zero, suc, ◌<◌}
use Rattle.logic.specs.Syntax.{Term, variable, constant, apply1, apply2, Connective, conjunction, disjunction, implication, Quantifier, every, some, Formula, pred0, pred1, pred2, negation, binary, quantified}
use Rattle.logic.specs.Assignment.{assign}
use Rattle.logic.specs.Algebra.{Algebra}
use Rattle.logic.specs.Structure.{Structure}

module _ {V : Type 0} (A : Algebra V) where
  -- f 0 and .. and f (n - 1)
  abbrev pub meet : (ℕ → V) → ℕ → V
  meet f zero = A.top
  meet f (suc n) = A.and (meet f n) (f n)

  -- f 0 or .. or f (n - 1)
  abbrev pub join : (ℕ → V) → ℕ → V
  join f zero = A.bottom
  join f (suc n) = A.or (join f n) (f n)

  -- what a connective makes of two values
  abbrev pub connect : Connective → V → V → V
  connect conjunction a b = A.and a b
  connect disjunction a b = A.or a b
  connect implication a b = A.or (A.not a) b

  -- what a quantifier makes of the values at 0 .. n - 1
  abbrev pub quantify : Quantifier → (ℕ → V) → ℕ → V
  quantify every f n = meet f n
  quantify some f n = join f n

module _ {V : Type 0} (M : Structure V) where
  -- the element that a term stands for
  abbrev pub element : (ℕ → ℕ) → Term → ℕ
  element ρ (variable x) = ρ x
  element ρ (constant c) = M.con c
  element ρ (apply1 f s) = M.fun1 f (element ρ s)
  element ρ (apply2 f s t) = M.fun2 f (element ρ s) (element ρ t)

  -- every variable has an element of the structure
  abbrev pub Into : (ℕ → ℕ) → Type 0
  Into ρ = (x : ℕ) → ρ x < M.size

module _ {V : Type 0} (A : Algebra V) (M : Structure V) where
  -- the value of a formula at an assignment
  abbrev pub value : (ℕ → ℕ) → Formula → V
  value ρ (pred0 p) = M.pred0 p
  value ρ (pred1 p s) = M.pred1 p (element M ρ s)
  value ρ (pred2 p s t) = M.pred2 p (element M ρ s) (element M ρ t)
  value ρ (negation a) = A.not (value ρ a)
  value ρ (binary k a b) = connect A k (value ρ a) (value ρ b)
  value ρ (quantified q x a) = quantify A q (λ e. value (assign ρ x e) a) M.size

  -- the formula is top at every assignment of elements
  abbrev pub Holds : Formula → Type 0
  Holds a = (ρ : ℕ → ℕ) → Into M ρ → value ρ a ≡ A.top
