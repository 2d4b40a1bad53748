use Rattle.logic.proofs.Weighed.{listed_zeros}
use Rattle.judge.proofs.assignment.Assignment.zeros.Goals as goal

pub returns : goal.returns
returns c = listed_zeros 8
