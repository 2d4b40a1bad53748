-- Every tree of the program reads back from its text. Assumes nothing.
use Rattle.std.specs.Prelude.{refl}
use Rattle.logic.specs.Text.{text, term_text, Named, TermNamed}
use Rattle.formula.specs.View.{term, formula}
use Rattle.formula.specs.declared.tree.Term.{Term}
use Rattle.formula.specs.declared.tree.Term.TheVariants.{Variable, Constant, Apply1', Apply2'}
use Rattle.formula.specs.declared.tree.Formula.{Formula}
use Rattle.formula.specs.declared.tree.Formula.TheVariants.{Predicate0, Predicate1, Predicate2, Not', Binary', Quantified'}
use Rattle.printer.specs.Printed.{FormulaBack, TermBack}

-- every tree of the program is of the grammar
term_named : (t : Term) → TermNamed (term t)
term_named (Variable x) = x.small
term_named (Constant c) = c.small
term_named (Apply1' f p s) = (f.small, term_named s)
term_named (Apply2' f p s q t) = (f.small, term_named s, term_named t)

formula_named : (a : Formula) → Named (formula a)
formula_named (Predicate0 p) = p.small
formula_named (Predicate1 p s) = (p.small, term_named s)
formula_named (Predicate2 p s t) = (p.small, term_named s, term_named t)
formula_named (Not' p a) = formula_named a
formula_named (Binary' k p a q b) = (formula_named a, formula_named b)
formula_named (Quantified' q x p a) = (x.small, formula_named a)

pub term_back : (t : Term) → TermBack (term t) (term_text (term t))
term_back t = record {
  reads = λ small. record { spelt = refl; formed = record { named = term_named t; few = small.0; flat = small.1 } };
  same = λ bytes r. r.spelt;
}

pub formula_back : (a : Formula) → FormulaBack (formula a) (text (formula a))
formula_back a = record {
  reads = λ small. record { spelt = refl; formed = record { named = formula_named a; few = small.0; flat = small.1 } };
  same = λ bytes r. r.spelt;
}
