-- Words keep the laws that each of their flags keeps. Assumes nothing.
use Rattle.std.specs.Prelude.{◌≡◌, ℕ, ◌^◌, ◌<◌}
use Rattle.std.proofs.Common.{ap, subst}
use Rattle.std.proofs.Math.Bridge.{le_prop}
use Rattle.logic.specs.Algebra.{Laws}
use Rattle.logic.proofs.Bits.{bit_bit_and, bit_bit_or, bit_not, bit_zero, bit_ones, same_bits}
use Rattle.logic.proofs.Images.{laws_image}
use Rattle.scale.specs.declared.word.Word.{Word}
use Rattle.scale.specs.Flags.{flag}
use Rattle.scale.specs.Words.{word, word_algebra, flag_in, BitByBit}
use Rattle.scale.specs.FlagsLemmas.{flag_laws}

-- words with the same bits are one
pub word_path : (a b : Word) → a.bits ≡ b.bits → a ≡ b
word_path a b e =
    let P : ℕ → Type 0 = λ n. (k : n < 2 ^ 64) → a ≡ word n k in
    subst P e (λ k. ap (word a.bits) (le_prop a.small k)) b.small

pub bit_by_bit : BitByBit
bit_by_bit k h = record {
  top = ap flag (bit_ones k 64 h);
  bottom = ap flag (bit_zero k);
  and = λ a b. ap flag (bit_bit_and k a.bits b.bits);
  or = λ a b. ap flag (bit_bit_or k a.bits b.bits);
  not = λ a. ap flag (bit_not k 64 a.bits h a.small);
}

pub word_laws : Laws word_algebra
word_laws =
    laws_image {I = (k : ℕ) × (k < 64)} (λ i. flag_in i.0) (λ i. bit_by_bit i.0 i.1) flag_laws
    (λ a b h. word_path a b (same_bits 64 a.bits b.bits a.small b.small (λ k l. ap (λ f. f.value) (h (k, l)))))
