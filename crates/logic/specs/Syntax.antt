-- Terms and formulas as plain trees, each name by its number. Assumes nothing.
use Rattle.std.specs.Prelude.{ℕ, Bool, false, not, ◌&&◌, ◌||◌, ◌==◌}

pub data Term : Type 0 where
  variable : ℕ → Term
  constant : ℕ → Term
  apply1 : ℕ → Term → Term
  apply2 : ℕ → Term → Term → Term

pub data Connective : Type 0 where
  conjunction disjunction implication : Connective
  deriving Discrete as Connective-discrete

pub data Quantifier : Type 0 where
  every some : Quantifier
  deriving Discrete as Quantifier-discrete

pub data Formula : Type 0 where
  pred0 : ℕ → Formula
  pred1 : ℕ → Term → Formula
  pred2 : ℕ → Term → Term → Formula
  negation : Formula → Formula
  binary : Connective → Formula → Formula → Formula
  quantified : Quantifier → ℕ → Formula → Formula

-- the variable v stands in the term
abbrev pub occurs : ℕ → Term → Bool
occurs v (variable x) = x == v
occurs v (constant c) = false
occurs v (apply1 f s) = occurs v s
occurs v (apply2 f s t) = occurs v s || occurs v t

-- the variable v stands free in the formula
abbrev pub free : ℕ → Formula → Bool
free v (pred0 p) = false
free v (pred1 p s) = occurs v s
free v (pred2 p s t) = occurs v s || occurs v t
free v (negation a) = free v a
free v (binary k a b) = free v a || free v b
free v (quantified q x a) = not (x == v) && free v a
