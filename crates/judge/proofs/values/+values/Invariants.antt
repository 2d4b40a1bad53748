use Rattle.std.proofs.Common.{◌≡◌}
use Rattle.logic.specs.Assignment.{assign, listed}
use Rattle.logic.specs.Value.{quantify, value}
use Rattle.formula.specs.View.{formula}
use Rattle.judge.specs.Join.{quantifier}
use Rattle.judge.proofs.values.+values.Given as goal

-- the values at the elements so far, joined
abbrev pub invariant-quantified-loop-e : goal.invariant-quantified-loop-e
invariant-quantified-loop-e g l =
    let A = g.R.Scale.Answers.algebra in
    let m = g.R.Run.meaning l.run in
    l.joined ≡ quantify A (quantifier l.join) (λ e. value A m (assign (listed l.at.elements) l.x.digit e) (formula l.a)) l.e
