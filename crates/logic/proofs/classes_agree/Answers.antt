use Rattle.logic.proofs.Agreement.{classes_agree}
use Rattle.logic.proofs.classes_agree.Goals as goal

pub returns : goal.returns
returns c = classes_agree
