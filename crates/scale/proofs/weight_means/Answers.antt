use Rattle.logic.proofs.Weighed as weighed
use Rattle.scale.proofs.weight_means.Goals as goal

pub returns : goal.returns
returns g c = weighed.weight_means g.met.S.Scale.laws
