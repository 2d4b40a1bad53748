use Rattle.std.proofs.Common.{length, arith}
use Rattle.formula.proofs.Counted.{counted}
use Rattle.formula.proofs.text.Spell.spare.Goals as goal

pub returns : goal.returns
returns g c =
    let bytes = g.Self.Spell.text c.args.self.now in
    counted bytes _ _ c.args.room 0 (length bytes) (omega arith) (omega arith, omega arith) c.spell.ensures
