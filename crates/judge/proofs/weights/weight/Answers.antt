use Rattle.judge.proofs.weights.weight.Goals as goal

pub returns-clause-weight : goal.returns-clause-weight
returns-clause-weight g c = simp c.zeros.ensures at c.over.ensures.value
