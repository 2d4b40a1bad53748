use Rattle.std.proofs.Common.{◌+◌, ◌*◌}
use Rattle.reader.proofs.Reader.+formulas.Given as goal

abbrev pub decreases-binary : goal.decreases-binary
decreases-binary l = 2 * l.left + 1

abbrev pub decreases-formula : goal.decreases-formula
decreases-formula l = 2 * l.left

abbrev pub decreases-quantified : goal.decreases-quantified
decreases-quantified l = 2 * l.left + 1
