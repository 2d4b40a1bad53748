use Rattle.std.proofs.Common.{arith, refl}
use Rattle.judge.proofs.Joins.{quantify_more, quantify_settled}
use Rattle.judge.proofs.values.+values.Goals as goal

pub quantified-returns-then-is_settled : goal.quantified-returns-then-is_settled
quantified-returns-then-is_settled g t c =
    quantify_settled g.met.R.Scale.Answers.judgeable c.args.join _ c.loop-e.e _ _
    (quantify_more g.R.Scale.Answers.algebra c.args.join _ c.loop-e.e c.loop-e.invariant
    (simp c.with.ensures at c.value.ensures) c.apply-joined.ensures)
    (omega (arith, c.size-e-end.ensures))
    (c.if-is_settled.ensures.0 refl)

pub quantified-loop-e-preserved : goal.quantified-loop-e-preserved
quantified-loop-e-preserved g t c =
    quantify_more g.R.Scale.Answers.algebra c.args.join _ c.loop-e.e c.loop-e.invariant
    (simp c.with.ensures at c.value.ensures) c.apply-joined.ensures
