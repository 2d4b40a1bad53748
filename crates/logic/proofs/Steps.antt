-- One step of each reader. Assumes nothing.
use Rattle.std.proofs.Common.{◌≡◌, ℕ, zero, suc, ◌-◌, ◌&&◌, eqb, ltb, leb, List, refl, sub-one, arith}
use Rattle.std.proofs.lemmas.Bool.Decides.{nat_tests}
use Rattle.logic.specs.Signs.{'x', 'c', 'f', 'g', 'p', 'q', 'r', '-', 'open', 'close', 'comma', letter}
use Rattle.logic.specs.Class.{digits, opens, closes, commas, class_of, is}
use Rattle.logic.specs.Reading.{Out, bad, too_deep, Head, head_variable, head_constant, head_apply1, head_apply2, Opening, open_pred0, open_pred1, open_pred2, open_negation, open_binary, open_quantified, term_by, read_term, formula_by, read_formula}
use Rattle.logic.specs.Syntax.{Term, Formula}

-- with no level left, nothing is read further
none_left : (f g : ℕ → ℕ → Out Term) (most : ℕ) (bytes : List ℕ) (at n : ℕ) → term_by f most 0 bytes at n ≡ term_by g most 0 bytes at n
none_left f g most bytes at n = grind (arith, nat_tests)

-- a reader of terms, whatever the number of levels
pub unroll : (most left : ℕ) (bytes : List ℕ) (at n : ℕ) → read_term most left bytes at n ≡ term_by (read_term most (left - 1) bytes) most left bytes at n
unroll most zero bytes at n = none_left (λ at n. bad too_deep at) (read_term most (0 - 1) bytes) most bytes at n
unroll most (suc left) bytes at n = rw sub-one refl

none_left_formula : (f g : ℕ → ℕ → Out Formula) (most : ℕ) (bytes : List ℕ) (at n : ℕ) → formula_by f most 0 bytes at n ≡ formula_by g most 0 bytes at n
none_left_formula f g most bytes at n = grind (arith, nat_tests)

-- a reader of formulas, whatever the number of levels
pub unroll_formula : (most left : ℕ) (bytes : List ℕ) (at n : ℕ) → read_formula most left bytes at n ≡ formula_by (read_formula most (left - 1) bytes) most left bytes at n
unroll_formula most zero bytes at n = none_left_formula (λ at n. bad too_deep at) (read_formula most (0 - 1) bytes) most bytes at n
unroll_formula most (suc left) bytes at n = rw sub-one refl

-- the bytes of each class that the reader asks for
pub is_opens : (b : ℕ) → is (class_of b) opens ≡ eqb b 'open'
is_opens b = grind (arith, nat_tests)

pub is_closes : (b : ℕ) → is (class_of b) closes ≡ eqb b 'close'
is_closes b = grind (arith, nat_tests)

pub is_commas : (b : ℕ) → is (class_of b) commas ≡ eqb b 'comma'
is_commas b = grind (arith, nat_tests)

pub is_digits : (b : ℕ) → is (class_of b) digits ≡ (leb 48 b && ltb b 56)
is_digits b = grind (arith, nat_tests)

-- the byte of what a term begins with
abbrev pub head_byte : Head → ℕ
head_byte head_variable = 'x'
head_byte head_constant = 'c'
head_byte head_apply1 = 'f'
head_byte head_apply2 = 'g'

-- the byte of what a formula begins with
abbrev pub opening_byte : Opening → ℕ
opening_byte open_pred0 = 'p'
opening_byte open_pred1 = 'q'
opening_byte open_pred2 = 'r'
opening_byte open_negation = '-'
opening_byte open_binary = 'open'
opening_byte (open_quantified q) = letter q
