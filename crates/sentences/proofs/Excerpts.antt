-- The lines of an excerpt. Assumes nothing.
use Rattle.std.proofs.Common.{ap, ◌≡◌, ℕ, zero, suc, ◌+◌, ◌-◌, ◌^◌, List, [], ◌∷◌, ◌++◌, length, replicate, slice_range, refl, append_assoc, nat_lt}
use Rattle.std.specs.Char.{encode_utf8}
use Rattle.std.specs.List.{repeat}
use Rattle.std.proofs.Math.Dec.{eqb-suc-zero}
use Rattle.std.specs.Fmt.{styled_text, format_spec, padded, take_chars, char_count}
use native.Mathlib.Numerals.{unary_clauses}
use Rattle.sentences.specs.Windows.{Around}
use Rattle.sentences.specs.Shown.{shown_text, mark_text, excerpt_at}

repeated : (n : ℕ) → repeat n (encode_utf8 32) ≡ replicate n 32
unfolding encode_utf8
repeated zero = refl
repeated (suc n) = ap (λ t. 32 ∷ t) (repeated n)

filled : (n : ℕ) → padded (format_spec 32 0 0 n (2 ^ 64 - 1)) [] ≡ replicate n 32
unfolding padded take_chars char_count
filled n = simp unary_clauses (repeated n)

-- nothing, in a width
pub blanks : (n : ℕ) → styled_text (format_spec 32 0 0 n (2 ^ 64 - 1)) [] ≡ replicate n 32
blanks zero = refl
blanks (suc n) = rw (eqb-suc-zero n) (filled (suc n))

pub excerpt_lines : (bytes : List ℕ) (place start end : ℕ) (before behind indent : List ℕ)
    → Around place (length bytes) start end → before ≡ mark_text (nat_lt 0 start) → behind ≡ mark_text (nat_lt end (length bytes))
    → indent ≡ replicate (length before + (place - start)) 32
    → 32 ∷ 32 ∷ (before ++ (shown_text (slice_range bytes start end) ++ (behind ++ (10 ∷ 32 ∷ 32 ∷ (indent ++ (94 ∷ [])))))) ≡ excerpt_at bytes place
excerpt_lines bytes place start end before behind indent a b h i = rw (i, b, h, a.from, a.to) (simp append_assoc)
