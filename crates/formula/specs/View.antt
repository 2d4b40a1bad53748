-- The plain trees that the program's trees stand for. Assumes nothing.
use Rattle.logic.specs.Syntax as pure
use Rattle.sign.specs.View.{connective, quantifier}
use Rattle.formula.specs.declared.tree.Term.{Term}
use Rattle.formula.specs.declared.tree.Term.TheVariants.{Variable, Constant, Apply1', Apply2'}
use Rattle.formula.specs.declared.tree.Formula.{Formula}
use Rattle.formula.specs.declared.tree.Formula.TheVariants.{Predicate0, Predicate1, Predicate2, Not', Binary', Quantified'}

abbrev pub term : Term → pure.Term
term (Variable x) = pure.variable x.digit
term (Constant c) = pure.constant c.digit
term (Apply1' f p s) = pure.apply1 f.digit (term s)
term (Apply2' f p s q t) = pure.apply2 f.digit (term s) (term t)

abbrev pub pair : Term × Term → pure.Term × pure.Term
pair p = (term p.0, term p.1)

abbrev pub formula : Formula → pure.Formula
formula (Predicate0 p) = pure.pred0 p.digit
formula (Predicate1 p s) = pure.pred1 p.digit (term s)
formula (Predicate2 p s t) = pure.pred2 p.digit (term s) (term t)
formula (Not' p a) = pure.negation (formula a)
formula (Binary' k p a q b) = pure.binary (connective k) (formula a) (formula b)
formula (Quantified' q x p a) = pure.quantified (quantifier q) x.digit (formula a)
