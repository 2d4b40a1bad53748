-- How many bytes the text of a term or a formula has, and that its text has so many. Assumes nothing.
use Rattle.std.proofs.Common.{◌≡◌, ℕ, ◌+◌, List, [], ◌∷◌, ◌++◌, length, refl, arith, length-append}
use Rattle.logic.specs.Syntax.{Term, variable, constant, apply1, apply2, Formula, pred0, pred1, pred2, negation, binary, quantified}
use Rattle.logic.specs.Signs.{joint, 'open', 'comma', 'close'}
use Rattle.logic.specs.Text.{term_text, text, enclosed}

abbrev pub term_width : Term → ℕ
term_width (variable x) = 2
term_width (constant c) = 2
term_width (apply1 f s) = term_width s + 4
term_width (apply2 f s t) = term_width s + term_width t + 5

abbrev pub width : Formula → ℕ
width (pred0 p) = 2
width (pred1 p s) = term_width s + 4
width (pred2 p s t) = term_width s + term_width t + 5
width (negation a) = width a + 1
width (binary k a b) = width a + width b + 3
width (quantified q x a) = width a + 3

-- two texts in brackets with a byte between them
abbrev pub bracketed : List ℕ → ℕ → List ℕ → List ℕ
bracketed s x t = 'open' ∷ (s ++ (x ∷ (t ++ ('close' ∷ []))))

one : (s : List ℕ) → length (enclosed s) ≡ length s + 2
one s = omega (arith, length-append s ('close' ∷ []))

two : (x : ℕ) (s t : List ℕ) → length (bracketed s x t) ≡ length s + length t + 3
two x s t = omega (arith, length-append s (x ∷ (t ++ ('close' ∷ []))), length-append t ('close' ∷ []))

pub term_width_lem : (t : Term) → length (term_text t) ≡ term_width t
term_width_lem (variable x) = refl
term_width_lem (constant c) = refl
term_width_lem (apply1 f s) = omega (arith, one (term_text s), term_width_lem s)
term_width_lem (apply2 f s t) = omega (arith, two 'comma' (term_text s) (term_text t), term_width_lem s, term_width_lem t)

pub one_width : (s : Term) → length (enclosed (term_text s)) ≡ term_width s + 2
one_width s = omega (arith, one (term_text s), term_width_lem s)

pub two_width : (s t : Term) → length (bracketed (term_text s) 'comma' (term_text t)) ≡ term_width s + term_width t + 3
two_width s t = omega (arith, two 'comma' (term_text s) (term_text t), term_width_lem s, term_width_lem t)

pub width_is : (a : Formula) → length (text a) ≡ width a
width_is (pred0 p) = refl
width_is (pred1 p s) = omega (arith, one_width s)
width_is (pred2 p s t) = omega (arith, two_width s t)
width_is (negation a) = omega (arith, width_is a)
width_is (binary k a b) = omega (arith, two (joint k) (text a) (text b), width_is a, width_is b)
width_is (quantified q x a) = omega (arith, width_is a)
