-- The connectives and quantifiers that the program's enums stand for. Assumes nothing.
use Rattle.logic.specs.Syntax as pure
use Rattle.sign.specs.declared.signs.Connective.{Connective}
use Rattle.sign.specs.declared.signs.Connective.TheVariants.{And, Or, Implies}
use Rattle.sign.specs.declared.signs.Quantifier.{Quantifier}
use Rattle.sign.specs.declared.signs.Quantifier.TheVariants.{Every, Some}

abbrev pub connective : Connective → pure.Connective
connective And = pure.conjunction
connective Or = pure.disjunction
connective Implies = pure.implication

abbrev pub quantifier : Quantifier → pure.Quantifier
quantifier Every = pure.every
quantifier Some = pure.some
