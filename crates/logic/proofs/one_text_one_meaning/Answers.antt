use Rattle.logic.proofs.Exact.{one_meaning}
use Rattle.logic.proofs.one_text_one_meaning.Goals as goal

pub returns : goal.returns
returns c = one_meaning
