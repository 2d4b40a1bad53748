use Rattle.sign.proofs.Shown.{Written}
use Rattle.sign.proofs.variables.VariablesDisplay.fmt.Given as goal

abbrev pub invariant-loop-digit : goal.invariant-loop-digit
invariant-loop-digit g l = Written g.W.Write.write_str_gives l.fn.f l.self.holds l.digit l.is_empty l.f
