-- The readers read the text of each term and formula within the limits. Assumes nothing.
use Rattle.std.proofs.Common.{◌≡◌, ℕ, ◌+◌, ◌-◌, ◌<◌, ◌≤◌, true, ◌&&◌, eqb, ltb, leb, List, [], ◌∷◌, ◌++◌, length, get_or, drop, refl, ap, ◌∙◌, append_assoc, arith, length-append, length-drop}
use Rattle.std.proofs.lemmas.List.{drop_more}
use Rattle.std.proofs.lemmas.Bool.{lt-ltb, eq-eqb, ne_eqb}
use Rattle.std.proofs.lemmas.Bool.Decides.{nat_tests}
use Rattle.logic.specs.Syntax.{Term, variable, constant, apply1, apply2, Connective, conjunction, disjunction, implication, every, some, Formula, pred0, pred1, pred2, negation, binary, quantified}
use Rattle.logic.specs.Signs.{'x', 'open', 'close', 'comma', digit, joint}
use Rattle.logic.specs.Class.{Class, opens, closes, commas, class_of, is}
use Rattle.logic.specs.Text.{enclosed, paired, term_text, text, term_parts, parts, term_levels, levels, TermNamed, Named, names}
use Rattle.logic.specs.Reading.{Out, got, Head, head_variable, head_constant, head_apply1, head_apply2, Opening, open_pred0, open_pred1, open_pred2, open_negation, open_binary, open_quantified, sign, name, part, head, opening, connective, argument, arguments, bound, read_term, read_formula}
use Rattle.logic.proofs.Steps.{unroll, unroll_formula, is_opens, is_closes, is_commas, is_digits, head_byte, opening_byte}

-- the byte at a place, when the bytes from there on are known
record Here (bytes : List ℕ) (at b : ℕ) (bs : List ℕ) : Type 0 where
  within : ltb at (length bytes) ≡ true
  byte : get_or bytes at 0 ≡ b
  next : drop (at + 1) bytes ≡ bs

here : (bytes : List ℕ) (at b : ℕ) (bs : List ℕ) → drop at bytes ≡ b ∷ bs → Here bytes at b bs
here bytes at b bs e =
    let lt : at < length bytes = omega (arith, length-drop at bytes, ap length e) in
    let m = drop_more bytes at 0 lt in
    record { within = lt-ltb at (length bytes) lt; byte = cc; next = cc }

-- a reader came through: what it read, where it stands, and what stands there
pub record Read {A : Type 0} (o : Out A) (x : A) (bytes : List ℕ) (at n : ℕ) (behind : List ℕ) : Type 0 where
  pub answer : o ≡ got x at n
  pub next : drop at bytes ≡ behind

-- a reader whose last step came through, with the place and the parts said otherwise
reached : {A B : Type 0} {o : Out A} {x : A} {last : Out B} {y : B} {bytes : List ℕ} {i m j k : ℕ} {behind : List ℕ} → Read last y bytes i m behind → o ≡ got x i m → i ≡ j → m ≡ k → Read o x bytes j k behind
reached r e p q = record { answer = rw (p, q) at e; next = rw p at r.next }

-- one byte is read
byte_reads : {A : Type 0} {o : Out A} {x : A} {bytes : List ℕ} {at m b : ℕ} {bs : List ℕ} → drop at bytes ≡ b ∷ bs → (Here bytes at b bs → o ≡ got x (at + 1) m) → Read o x bytes (at + 1) m bs
byte_reads e f = let h = here _ _ _ _ e in record { answer = f h; next = h.next }

sign_reads : (c : Class) {w : ℕ} → ((b : ℕ) → is (class_of b) c ≡ eqb b w) → (bytes : List ℕ) (at n : ℕ) (bs : List ℕ) → drop at bytes ≡ w ∷ bs → Read (sign c bytes at n) tt bytes (at + 1) n bs
sign_reads c {w} only bytes at n bs e = byte_reads e (λ h. rw (h.within, h.byte, only w, eq-eqb w w refl) refl)

small_digit : (d : ℕ) → d < names → (leb 48 (48 + d) && ltb (48 + d) 56) ≡ true
small_digit d l = grind (arith, nat_tests)

name_reads : (d : ℕ) (bytes : List ℕ) (at n : ℕ) (bs : List ℕ) → d < names → drop at bytes ≡ digit d ∷ bs → Read (name bytes at n) d bytes (at + 1) n bs
name_reads d bytes at n bs l e =
    let back : (48 + d) - 48 ≡ d = omega arith in
    byte_reads e (λ h. rw (h.within, h.byte, is_digits (digit d), small_digit d l, back) refl)

part_reads : {A : Type 0} (x : A) (most left at n : ℕ) → 0 < left → n < most → part most x left at n ≡ got x (at + 1) (n + 1)
part_reads x most left at n deep many = rw (ne_eqb left 0 (λ z. omega arith), lt-ltb n most many) refl

head_reads : (x : Head) (most left : ℕ) (bytes : List ℕ) (at n : ℕ) (bs : List ℕ) → 0 < left → n < most → drop at bytes ≡ head_byte x ∷ bs → Read (head most left bytes at n) x bytes (at + 1) (n + 1) bs
head_reads head_variable most left bytes at n bs deep many e = byte_reads e (λ h. rw (h.within, h.byte) (part_reads head_variable most left at n deep many))
head_reads head_constant most left bytes at n bs deep many e = byte_reads e (λ h. rw (h.within, h.byte) (part_reads head_constant most left at n deep many))
head_reads head_apply1 most left bytes at n bs deep many e = byte_reads e (λ h. rw (h.within, h.byte) (part_reads head_apply1 most left at n deep many))
head_reads head_apply2 most left bytes at n bs deep many e = byte_reads e (λ h. rw (h.within, h.byte) (part_reads head_apply2 most left at n deep many))

opening_reads : (x : Opening) (most left : ℕ) (bytes : List ℕ) (at n : ℕ) (bs : List ℕ) → 0 < left → n < most → drop at bytes ≡ opening_byte x ∷ bs → Read (opening most left bytes at n) x bytes (at + 1) (n + 1) bs
opening_reads open_pred0 most left bytes at n bs deep many e = byte_reads e (λ h. rw (h.within, h.byte) (part_reads open_pred0 most left at n deep many))
opening_reads open_pred1 most left bytes at n bs deep many e = byte_reads e (λ h. rw (h.within, h.byte) (part_reads open_pred1 most left at n deep many))
opening_reads open_pred2 most left bytes at n bs deep many e = byte_reads e (λ h. rw (h.within, h.byte) (part_reads open_pred2 most left at n deep many))
opening_reads open_negation most left bytes at n bs deep many e = byte_reads e (λ h. rw (h.within, h.byte) (part_reads open_negation most left at n deep many))
opening_reads open_binary most left bytes at n bs deep many e = byte_reads e (λ h. rw (h.within, h.byte) (part_reads open_binary most left at n deep many))
opening_reads (open_quantified every) most left bytes at n bs deep many e = byte_reads e (λ h. rw (h.within, h.byte) (part_reads (open_quantified every) most left at n deep many))
opening_reads (open_quantified some) most left bytes at n bs deep many e = byte_reads e (λ h. rw (h.within, h.byte) (part_reads (open_quantified some) most left at n deep many))

connective_reads : (k : Connective) (bytes : List ℕ) (at n : ℕ) (bs : List ℕ) → drop at bytes ≡ joint k ∷ bs → Read (connective bytes at n) k bytes (at + 1) n bs
connective_reads conjunction bytes at n bs e = byte_reads e (λ h. rw (h.within, h.byte) refl)
connective_reads disjunction bytes at n bs e = byte_reads e (λ h. rw (h.within, h.byte) refl)
connective_reads implication bytes at n bs e = byte_reads e (λ h. rw (h.within, h.byte) refl)

bound_reads : (x : ℕ) (bytes : List ℕ) (at n : ℕ) (bs : List ℕ) → x < names → drop at bytes ≡ 'x' ∷ digit x ∷ bs → Read (bound bytes at n) x bytes (at + 1 + 1) n bs
bound_reads x bytes at n bs l e =
    let h = here bytes at 'x' (digit x ∷ bs) e in
    let d = name_reads x bytes (at + 1) n bs l h.next in
    record { answer = rw (h.within, h.byte, d.answer) refl; next = d.next }

-- the reader reads the text of the term, wherever it stands, after n parts
abbrev Able : (ℕ → ℕ → Out Term) → List ℕ → Term → ℕ → Type 0
Able rec bytes s n = (at : ℕ) (rest : List ℕ) → drop at bytes ≡ term_text s ++ rest → Read (rec at n) s bytes (at + length (term_text s)) (n + term_parts s) rest

argument_reads : (rec : ℕ → ℕ → Out Term) (s : Term) (bytes : List ℕ) (at n : ℕ) (rest : List ℕ) → Able rec bytes s n → drop at bytes ≡ enclosed (term_text s) ++ rest → Read (argument rec bytes at n) s bytes (at + length (enclosed (term_text s))) (n + term_parts s) rest
argument_reads rec s bytes at n rest able e =
    let spread : enclosed (term_text s) ++ rest ≡ 'open' ∷ (term_text s ++ ('close' ∷ rest)) = simp append_assoc in
    let r0 = sign_reads opens is_opens bytes at n _ (e ∙ spread) in
    let r1 = able (at + 1) _ r0.next in
    let r2 = sign_reads closes is_closes bytes _ (n + term_parts s) _ r1.next in
    reached r2 (rw (r0.answer, r1.answer, r2.answer) refl) (omega (arith, length-append (term_text s) ('close' ∷ []))) refl

arguments_reads : (rec : ℕ → ℕ → Out Term) (s t : Term) (bytes : List ℕ) (at n : ℕ) (rest : List ℕ) → Able rec bytes s n → Able rec bytes t (n + term_parts s) → drop at bytes ≡ paired (term_text s) (term_text t) ++ rest → Read (arguments rec bytes at n) (s, t) bytes (at + length (paired (term_text s) (term_text t))) (n + term_parts s + term_parts t) rest
arguments_reads rec s t bytes at n rest able-s able-t e =
    let spread : paired (term_text s) (term_text t) ++ rest ≡ 'open' ∷ (term_text s ++ ('comma' ∷ (term_text t ++ ('close' ∷ rest)))) = simp append_assoc in
    let r0 = sign_reads opens is_opens bytes at n _ (e ∙ spread) in
    let r1 = able-s (at + 1) _ r0.next in
    let r2 = sign_reads commas is_commas bytes _ (n + term_parts s) _ r1.next in
    let r3 = able-t _ _ r2.next in
    let r4 = sign_reads closes is_closes bytes _ (n + term_parts s + term_parts t) _ r3.next in
    reached r4 (rw (r0.answer, r1.answer, r2.answer, r3.answer, r4.answer) refl)
    (omega (arith, length-append (term_text s) ('comma' ∷ (term_text t ++ ('close' ∷ []))), length-append (term_text t) ('close' ∷ []))) refl

pub term_complete : (t : Term) (most left : ℕ) (bytes : List ℕ) (at n : ℕ) (rest : List ℕ) → TermNamed t → term_levels t ≤ left → n + term_parts t ≤ most → drop at bytes ≡ term_text t ++ rest → Read (read_term most left bytes at n) t bytes (at + length (term_text t)) (n + term_parts t) rest
term_complete (variable x) most left bytes at n rest ok deep many e =
    let r0 = head_reads head_variable most left bytes at n _ (omega arith) (omega arith) e in
    let r1 = name_reads x bytes (at + 1) (n + 1) _ ok r0.next in
    reached r1 (unroll most left bytes at n ∙ rw (r0.answer, r1.answer) refl) (omega arith) refl
term_complete (constant c) most left bytes at n rest ok deep many e =
    let r0 = head_reads head_constant most left bytes at n _ (omega arith) (omega arith) e in
    let r1 = name_reads c bytes (at + 1) (n + 1) _ ok r0.next in
    reached r1 (unroll most left bytes at n ∙ rw (r0.answer, r1.answer) refl) (omega arith) refl
term_complete (apply1 f s) most left bytes at n rest ok deep many e =
    let r0 = head_reads head_apply1 most left bytes at n _ (omega arith) (omega arith) e in
    let r1 = name_reads f bytes (at + 1) (n + 1) _ ok.0 r0.next in
    let r2 = argument_reads (read_term most (left - 1) bytes) s bytes (at + 1 + 1) (n + 1) rest
    (λ at rest. term_complete s most (left - 1) bytes at (n + 1) rest ok.1 (omega arith) (omega arith)) r1.next in
    reached r2 (unroll most left bytes at n ∙ rw (r0.answer, r1.answer, r2.answer) refl) (omega arith) (omega arith)
term_complete (apply2 f s t) most left bytes at n rest ok deep many e =
    let r0 = head_reads head_apply2 most left bytes at n _ (omega arith) (omega arith) e in
    let r1 = name_reads f bytes (at + 1) (n + 1) _ ok.0 r0.next in
    let r2 = arguments_reads (read_term most (left - 1) bytes) s t bytes (at + 1 + 1) (n + 1) rest
    (λ at rest. term_complete s most (left - 1) bytes at (n + 1) rest ok.1 (omega arith) (omega arith))
    (λ at rest. term_complete t most (left - 1) bytes at (n + 1 + term_parts s) rest ok.2 (omega arith) (omega arith)) r1.next in
    reached r2 (unroll most left bytes at n ∙ rw (r0.answer, r1.answer, r2.answer) refl) (omega arith) (omega arith)

pub complete : (a : Formula) (most left : ℕ) (bytes : List ℕ) (at n : ℕ) (rest : List ℕ) → Named a → levels a ≤ left → n + parts a ≤ most → drop at bytes ≡ text a ++ rest → Read (read_formula most left bytes at n) a bytes (at + length (text a)) (n + parts a) rest
complete (pred0 p) most left bytes at n rest ok deep many e =
    let r0 = opening_reads open_pred0 most left bytes at n _ (omega arith) (omega arith) e in
    let r1 = name_reads p bytes (at + 1) (n + 1) _ ok r0.next in
    reached r1 (unroll_formula most left bytes at n ∙ rw (r0.answer, r1.answer) refl) (omega arith) refl
complete (pred1 p s) most left bytes at n rest ok deep many e =
    let r0 = opening_reads open_pred1 most left bytes at n _ (omega arith) (omega arith) e in
    let r1 = name_reads p bytes (at + 1) (n + 1) _ ok.0 r0.next in
    let r2 = argument_reads (read_term most (left - 1) bytes) s bytes (at + 1 + 1) (n + 1) rest
    (λ at rest. term_complete s most (left - 1) bytes at (n + 1) rest ok.1 (omega arith) (omega arith)) r1.next in
    reached r2 (unroll_formula most left bytes at n ∙ rw (r0.answer, r1.answer, r2.answer) refl) (omega arith) (omega arith)
complete (pred2 p s t) most left bytes at n rest ok deep many e =
    let r0 = opening_reads open_pred2 most left bytes at n _ (omega arith) (omega arith) e in
    let r1 = name_reads p bytes (at + 1) (n + 1) _ ok.0 r0.next in
    let r2 = arguments_reads (read_term most (left - 1) bytes) s t bytes (at + 1 + 1) (n + 1) rest
    (λ at rest. term_complete s most (left - 1) bytes at (n + 1) rest ok.1 (omega arith) (omega arith))
    (λ at rest. term_complete t most (left - 1) bytes at (n + 1 + term_parts s) rest ok.2 (omega arith) (omega arith)) r1.next in
    reached r2 (unroll_formula most left bytes at n ∙ rw (r0.answer, r1.answer, r2.answer) refl) (omega arith) (omega arith)
complete (negation a) most left bytes at n rest ok deep many e =
    let r0 = opening_reads open_negation most left bytes at n _ (omega arith) (omega arith) e in
    let r1 = complete a most (left - 1) bytes (at + 1) (n + 1) rest ok (omega arith) (omega arith) r0.next in
    reached r1 (unroll_formula most left bytes at n ∙ rw (r0.answer, r1.answer) refl) (omega arith) (omega arith)
complete (binary k a b) most left bytes at n rest ok deep many e =
    let spread : text (binary k a b) ++ rest ≡ 'open' ∷ (text a ++ (joint k ∷ (text b ++ ('close' ∷ rest)))) = simp append_assoc in
    let r0 = opening_reads open_binary most left bytes at n _ (omega arith) (omega arith) (e ∙ spread) in
    let r1 = complete a most (left - 1) bytes (at + 1) (n + 1) _ ok.0 (omega arith) (omega arith) r0.next in
    let r2 = connective_reads k bytes _ (n + 1 + parts a) _ r1.next in
    let r3 = complete b most (left - 1) bytes (at + 1 + length (text a) + 1) (n + 1 + parts a) _ ok.1 (omega arith) (omega arith) r2.next in
    let r4 = sign_reads closes is_closes bytes _ (n + 1 + parts a + parts b) _ r3.next in
    reached r4 (unroll_formula most left bytes at n ∙ rw (r0.answer, r1.answer, r2.answer, r3.answer, r4.answer) refl)
    (omega (arith, length-append (text a) (joint k ∷ (text b ++ ('close' ∷ []))), length-append (text b) ('close' ∷ []))) (omega arith)
complete (quantified q x a) most left bytes at n rest ok deep many e =
    let r0 = opening_reads (open_quantified q) most left bytes at n _ (omega arith) (omega arith) e in
    let r1 = bound_reads x bytes (at + 1) (n + 1) _ ok.0 r0.next in
    let r2 = complete a most (left - 1) bytes (at + 1 + 1 + 1) (n + 1) rest ok.1 (omega arith) (omega arith) r1.next in
    reached r2 (unroll_formula most left bytes at n ∙ rw (r0.answer, r1.answer, r2.answer) refl) (omega arith) (omega arith)
