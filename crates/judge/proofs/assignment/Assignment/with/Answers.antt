use Rattle.std.proofs.Common.{arith}
use Rattle.logic.proofs.Arrays.{listed_set}
use Rattle.judge.proofs.assignment.Assignment.with.Goals as goal

pub returns : goal.returns
returns c = let s = c.args.variable.small in listed_set c.args.self.elements c.args.variable.digit c.args.element (omega (arith, s))
