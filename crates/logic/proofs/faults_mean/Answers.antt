use Rattle.logic.proofs.Meanings.{formula_means, term_means}
use Rattle.logic.proofs.faults_mean.Goals as goal

pub returns : goal.returns
returns c = record { of_formula = formula_means; of_term = term_means }
