use Rattle.logic.proofs.Exact.{formula_reads, formula_read, term_reads, term_read}
use Rattle.logic.proofs.reads_exactly.Goals as goal

pub returns : goal.returns
returns c = record { reads_formula = formula_reads; formula_read = formula_read; reads_term = term_reads; term_read = term_read }
