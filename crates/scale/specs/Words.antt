-- The algebra of words. Assumes nothing.
use Rattle.std.specs.Prelude.{ℕ, ◌-◌, ◌^◌, ◌<◌, Bool, bit_and, bit_or}
use Rattle.std.proofs.Common.{lit<}
use Rattle.std.proofs.Math.Pow.{ones_sub-lt}
use Rattle.std.specs.Int.Bits.{and_lt}
use Rattle.std.proofs.lemmas.Nat.{or_lt}
use Rattle.logic.specs.Algebra.{Algebra, Keeps}
use Rattle.logic.specs.Bits.{bit}
use Rattle.scale.specs.declared.flag.Flag.{Flag}
use Rattle.scale.specs.declared.word.Word.{Word}
use Rattle.scale.specs.Flags.{flag, flag_algebra}

-- the word with these bits
abbrev pub word : (n : ℕ) → n < 2 ^ 64 → Word
word n h = record { bits = n; small = h }

-- the operations on all bits at once
abbrev pub word_algebra : Algebra Word
word_algebra = record {
  top = word (2 ^ 64 - 1) (lit< tt);
  bottom = word 0 (lit< tt);
  and = λ a b. word (bit_and a.bits b.bits) (and_lt 64 a.bits b.bits a.small b.small);
  or = λ a b. word (bit_or a.bits b.bits) (or_lt 64 a.bits b.bits a.small b.small);
  not = λ a. word ((2 ^ 64 - 1) - a.bits) (ones_sub-lt 64 a.bits);
}

-- bit k of a word
abbrev pub bit_in : ℕ → Word → Bool
bit_in k w = bit w.bits k

-- bit k of a word as a flag
abbrev pub flag_in : ℕ → Word → Flag
flag_in k w = flag (bit_in k w)

-- a word is sixty-four flags: each operation does to each bit what it does to a flag
abbrev pub BitByBit : Type 0
BitByBit = (k : ℕ) → k < 64 → Keeps word_algebra flag_algebra (flag_in k)
