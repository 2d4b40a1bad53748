use Rattle.std.proofs.Common.{◌<◌, length, arith}
use Rattle.sign.proofs.Entries.{holds}
use Rattle.sign.proofs.class.Class.in_table.Goals as goal

pub returns : goal.returns
returns c = let h : c.args.byte < length c.args.table.now = omega arith in holds c.args.table.now c.requires c.args.byte h
