use Rattle.logic.proofs.Consequences.{consequences}
use Rattle.scale.proofs.laws_suffice.Goals as goal

pub returns : goal.returns
returns g c = consequences g.met.S.Scale.laws
