use Rattle.std.proofs.Common.{rules}
use Rattle.formula.proofs.Shown.{written}
use Rattle.formula.proofs.display.show.Goals as goal

pub returns : goal.returns
returns g c =
    let tree = c.args.tree.now in
    let all = written g.W.Write.write_str_gives (g.T.Spell.text tree) _ _ (g.met.T.Spell.ascii tree) c.spell.ensures in
    let same = all.formatter in
    let writes = all.writes in
    search rules
