use Rattle.std.proofs.Common.{◌/◌, ◌^◌, eqb, sym, ap, ◌∙◌, arith}
use lib.Bits.{and_mask}
use Rattle.std.proofs.lemmas.Bool.{le-ltb}
use Rattle.logic.proofs.Bits.{bit_shifted, bit_past}
use Rattle.scale.proofs.word.Word.bit.Goals as goal

pub returns-then-k-lt64 : goal.returns-then-k-lt64
returns-then-k-lt64 c =
    ap (λ n. eqb n 1) (and_mask (c.args.self.bits / 2 ^ c.args.k) 1) ∙ sym (bit_shifted c.args.k c.args.self.bits)

pub returns-else-k-lt64 : goal.returns-else-k-lt64
returns-else-k-lt64 c =
    le-ltb c.args.k 64 (omega arith) ∙ sym (bit_past c.args.k 64 c.args.self.bits (omega arith) c.args.self.small)
