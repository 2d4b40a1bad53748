use Rattle.std.proofs.Common.{◌≡◌, get_or, drop}
use Rattle.logic.specs.Assignment.{assign, listed}
use Rattle.logic.specs.Value.{meet}
use Rattle.formula.specs.View.{formula}
use Rattle.judge.specs.Weighing.{weight_below}
use Rattle.judge.proofs.weights.+over.Given as goal

abbrev pub decreases-over : goal.decreases-over
decreases-over g l = l.below

-- the variable's cell has the values at the elements so far, and the cells of later variables are as they were
abbrev pub invariant-loop-e : goal.invariant-loop-e
invariant-loop-e g l =
    let A = g.R.Scale.Answers.algebra in
    let m = g.R.Run.meaning l.run in
    let n = l.last.digit in
    record {
      found : get_or l.cells n A.top ≡ meet A (λ e. weight_below A m (formula l.body.f.now) n (assign (listed l.at.elements) n e)) l.e;
      kept : drop l.below l.cells ≡ drop l.below l.fn.cells;
    }
