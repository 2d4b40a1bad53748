use Rattle.std.proofs.Common.{◌≡◌, ◌-◌, length, refl, sym, subst, arith, rules}
use Rattle.printer.proofs.Fronts.{front}
use Rattle.printer.proofs.Sent.{printed}
use Rattle.printer.proofs.print.Goals as goal

pub returns-in-Some-clause-printed : goal.returns-in-Some-clause-printed
returns-in-Some-clause-printed g c =
    let text = g.T.Spell.text c.args.tree.now in
    let fits = c.in-Some.ensures.0 in
    let all = printed c.args.out.now text _ _ refl refl fits c.spell.ensures in
    let left = c.in-Some.ensures.1 in
    let len : length c.args.out.now - c.in-Some.left ≡ length text = omega (arith, left, fits) in
    let same = all.0 in
    let put = all.1 in
    search rules

pub returns-in-Some-clause-back : goal.returns-in-Some-clause-back
returns-in-Some-clause-back g c =
    let is_text = front (returns-in-Some-clause-printed g c) in
    subst (g.T.ReadBack.back c.args.tree.now) (sym is_text) (g.met.T.ReadBack.reads_back c.args.tree.now)
