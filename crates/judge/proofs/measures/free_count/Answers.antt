use Rattle.std.proofs.Common.{◌∙◌, arith}
use Rattle.logic.specs.Text.{names}
use Rattle.formula.specs.View.{formula}
use Rattle.judge.proofs.Counted.{count_by_free}
use Rattle.judge.proofs.measures.free_count.Goals as goal

pub returns : goal.returns
returns c = c.marked.ensures ∙ count_by_free (formula c.args.f.now) c.free_variables.result.holds names (omega arith) c.free_variables.ensures
