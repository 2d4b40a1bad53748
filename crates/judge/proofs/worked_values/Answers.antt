use Rattle.judge.proofs.Examples.{examples}
use Rattle.judge.proofs.worked_values.Goals as goal

pub returns : goal.returns
returns c = examples
