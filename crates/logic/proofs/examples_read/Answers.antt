use Rattle.std.proofs.Common.{refl}
use Rattle.logic.proofs.examples_read.Goals as goal

pub returns : goal.returns
returns c = record { nothing = refl; digit_eight = refl; behind = refl; level_24 = refl; level_25 = refl; variable_seven = refl }
