use Rattle.std.proofs.Common.{sym, rules}
use Rattle.run.proofs.Fleets.{fleet_new}
use Rattle.run.proofs.fleet.Listed+u64.new.Goals as goal

pub returns-clause-made : goal.returns-clause-made
returns-clause-made c =
    fleet_new c.args.bytes.now c.in_ok-size.list.now c.args.words.now c.in_ok-size-2.size c.entries-count.result
    (search rules) (search rules) c.entries-count.ensures c.if-list-count.false c.if-words-count.false (sym c.if-not-all_below.ensures) _ _
