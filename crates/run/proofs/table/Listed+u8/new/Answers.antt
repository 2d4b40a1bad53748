use Rattle.std.proofs.Common.{sym, rules}
use Rattle.run.proofs.Made.{table_new}
use Rattle.run.proofs.table.Listed+u8.new.Goals as goal

pub returns-clause-made : goal.returns-clause-made
returns-clause-made c =
    table_new c.args.bytes.now c.in_ok-size.lists.now c.split_at.result.0.now c.split_at.result.1.now c.in_ok-size-2.size c.entries-count.result
    (search rules) (search rules) c.entries-count.ensures c.if-lists-count.false c.split_at.ensures.front c.split_at.ensures.back
    (sym c.if-not-all_below.ensures) (sym c.if-not-all_below-2.ensures) _ _
