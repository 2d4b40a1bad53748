use Rattle.formula.proofs.tree.Formula.TheLaws.{the_size}
use Rattle.judge.proofs.measures.+nesting.Given as goal

abbrev pub decreases-nesting : goal.decreases-nesting
decreases-nesting l = the_size l.f.now
