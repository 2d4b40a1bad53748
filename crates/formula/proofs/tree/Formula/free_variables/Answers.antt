use Rattle.std.proofs.Common.{rules}
use Rattle.formula.proofs.tree.Formula.free_variables.Goals as goal

pub returns : goal.returns
returns c x small = let told = c.variables_of.ensures (record { digit = x; small = small }) in search rules
