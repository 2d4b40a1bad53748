-- Names, and what a term or a formula begins with, as the theory has them. Assumes nothing.
use Rattle.std.specs.Prelude.{ℕ}
use Rattle.logic.specs.Reading as pure
use Rattle.sign.specs.View.{quantifier}
use Rattle.sign.specs.declared.name.Name.{Name}
use Rattle.reader.specs.declared.Head.{Head}
use Rattle.reader.specs.declared.Head.TheVariants.{Variable, Constant, Apply1, Apply2}
use Rattle.reader.specs.declared.Opening.{Opening}
use Rattle.reader.specs.declared.Opening.TheVariants.{Predicate0, Predicate1, Predicate2, Not, Bracket, Quantified}

abbrev pub head_of : Head → pure.Head
head_of Variable = pure.head_variable
head_of Constant = pure.head_constant
head_of Apply1 = pure.head_apply1
head_of Apply2 = pure.head_apply2

abbrev pub opening_of : Opening → pure.Opening
opening_of Predicate0 = pure.open_pred0
opening_of Predicate1 = pure.open_pred1
opening_of Predicate2 = pure.open_pred2
opening_of Not = pure.open_negation
opening_of Bracket = pure.open_binary
opening_of (Quantified q) = pure.open_quantified (quantifier q)

abbrev pub digit_of : Name → ℕ
digit_of n = n.digit
