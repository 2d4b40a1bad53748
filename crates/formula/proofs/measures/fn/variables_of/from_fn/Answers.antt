use Rattle.std.proofs.Common.{sym, subst}
use Rattle.sign.proofs.Names.{name_path}
use Rattle.formula.proofs.measures.fn.variables_of.from_fn.Goals as goal

pub returns : goal.returns
returns g c n e = subst (λ m. g.F.Fn.post c.captures.test (m, tt) c.test.result) (name_path _ n (sym e)) c.test.ensures
