use Rattle.scale.specs.WordsLemmas.{bit_by_bit}
use Rattle.scale.proofs.words_are_flags.Goals as goal

pub returns : goal.returns
returns c = bit_by_bit
