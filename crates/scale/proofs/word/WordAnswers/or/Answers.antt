use Rattle.std.proofs.lemmas.Nat.{or_lt}
use Rattle.scale.proofs.word.WordAnswers.or.Goals as goal

pub invariant_of-result : goal.invariant_of-result
invariant_of-result c = record { small = or_lt 64 c.args.self.bits c.args.other.bits c.args.self.small c.args.other.small }
