use Rattle.sentences.proofs.Carets.{caret_under}
use Rattle.sentences.proofs.excerpt.caret_is_under.Goals as goal

pub returns : goal.returns
returns c = caret_under
