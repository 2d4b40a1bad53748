use Rattle.std.proofs.Common.{◌+◌, ◌*◌}
use Rattle.reader.proofs.Reader.+terms.Given as goal

abbrev pub decreases-argument : goal.decreases-argument
decreases-argument l = 2 * l.left + 1

abbrev pub decreases-arguments : goal.decreases-arguments
decreases-arguments l = 2 * l.left + 1

abbrev pub decreases-term : goal.decreases-term
decreases-term l = 2 * l.left
