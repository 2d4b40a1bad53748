-- The two ways in which connectives and quantifiers join values. Assumes nothing.
use Rattle.std.specs.Prelude.{◌≡◌}
use Rattle.logic.specs.Syntax as pure
use Rattle.logic.specs.Algebra.{Algebra}
use Rattle.judge.specs.declared.join.Join.{Join}
use Rattle.judge.specs.declared.join.Join.TheVariants.{And, Or}

-- the connective that joins two values so
abbrev pub connective : Join → pure.Connective
connective And = pure.conjunction
connective Or = pure.disjunction

-- the quantifier that joins the values at all elements so
abbrev pub quantifier : Join → pure.Quantifier
quantifier And = pure.every
quantifier Or = pure.some

module _ {V : Type 0} (A : Algebra V) where
  -- what no values join to
  abbrev pub empty : Join → V
  empty And = A.top
  empty Or = A.bottom

  -- whatever is joined to the value, it stays: its denial is top, or it is top itself
  abbrev pub Settled : Join → V → Type 0
  Settled And v = A.not v ≡ A.top
  Settled Or v = v ≡ A.top
