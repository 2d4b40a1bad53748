use Rattle.logic.proofs.Shown.{shown}
use Rattle.logic.proofs.text_shows_parts.Goals as goal

pub returns : goal.returns
returns c = shown
