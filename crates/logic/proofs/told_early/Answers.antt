use Rattle.logic.proofs.Long.{told_early}
use Rattle.logic.proofs.told_early.Goals as goal

pub returns : goal.returns
returns c = told_early
