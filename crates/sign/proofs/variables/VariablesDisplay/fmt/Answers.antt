use Rattle.std.proofs.Common.{◌≡◌, is_ok, ap, arith}
use Rattle.logic.specs.Text.{names}
use Rattle.sign.proofs.Shown.{written_none, written_in, written_out, written_last, written_all}
use Rattle.sign.proofs.variables.VariablesDisplay.fmt.Goals as goal
use Rattle.sign.proofs.variables.VariablesDisplay.fmt.Goals.{then-is_in+in_ok-show_variable, else-is_in}

pub loop-digit-init : goal.loop-digit-init
loop-digit-init g c = written_none _ _ _

pub loop-digit-preserved : goal.loop-digit-preserved
loop-digit-preserved g c =
    elim c.if-is_in.branch [
      | then-is_in+in_ok-show_variable w ↦ rw (w.f-is, w.is_empty-is)
          (written_in _ _ _ _ _ _ _ w.show_variable.result w.if-is_in.true (ap is_ok w.in_ok-show_variable.was) c.loop-digit.invariant w.show_variable.ensures)
      | else-is_in w ↦ rw (w.f-is, w.is_empty-is) (written_out _ _ _ _ _ _ w.if-is_in.false c.loop-digit.invariant)
    ]

pub returns-then-is_empty-clause-writes : goal.returns-then-is_empty-clause-writes
returns-then-is_empty-clause-writes g c =
    let last : c.loop-digit.digit ≡ names = omega arith in
    let all = rw (last, c.if-is_empty.true) at c.loop-digit.invariant in
    written_last _ _ _ _ _ _ c.write_str.result all c.write_str.ensures.writes

pub returns-else-is_empty-clause-writes : goal.returns-else-is_empty-clause-writes
returns-else-is_empty-clause-writes g c plain ok =
    let last : c.loop-digit.digit ≡ names = omega arith in
    let all = rw (last, c.if-is_empty.false) at c.loop-digit.invariant in
    written_all _ _ _ _ _ all plain
