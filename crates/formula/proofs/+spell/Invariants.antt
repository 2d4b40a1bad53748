use Rattle.std.proofs.Common.{◌+◌, ◌*◌, max}
use Rattle.formula.proofs.tree.Term.TheLaws.{the_size}
use Rattle.formula.proofs.+spell.Given as goal

abbrev pub decreases-text::TermSpell::spell : goal.decreases-text::TermSpell::spell
decreases-text::TermSpell::spell g l = 2 * the_size l.self.now

abbrev pub decreases-tree::Term::enclosed : goal.decreases-tree::Term::enclosed
decreases-tree::Term::enclosed g l = 2 * the_size l.self.now + 1

abbrev pub decreases-tree::Term::paired : goal.decreases-tree::Term::paired
decreases-tree::Term::paired g l = 2 * max (the_size l.self.now) (the_size l.other.now) + 1
