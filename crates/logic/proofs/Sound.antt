-- What is read is what stands there, and a fault of a reader never lies behind what it reads. Assumes nothing.
use Rattle.std.proofs.Common.{◌≡◌, ℕ, zero, suc, ◌+◌, ◌-◌, ◌<◌, ◌≤◌, max, Bool, true, cond, ◌&&◌, eqb, ltb, leb, List, [], ◌∷◌, ◌++◌, length, get_or, drop, sym, refl, ap, ◌∙◌, append_assoc, sub-one, arith, length-append}
use Rattle.std.proofs.lemmas.List.{drop_more}
use Rattle.std.proofs.lemmas.Bool.{ltb-true, leb-true, eqb-true, eqb-false, and_parts, cond_both}
use Rattle.logic.specs.Syntax.{Term, conjunction, disjunction, implication, every, some, Formula}
use Rattle.logic.specs.Signs.{'x', 'open', 'close', 'comma', digit, joint}
use Rattle.logic.specs.Class.{digits, opens, closes, commas, class_of, is}
use Rattle.logic.specs.Text.{enclosed, paired, term_text, text, term_parts, parts, term_levels, levels, TermNamed, Named, names}
use Rattle.logic.specs.Reading.{Misreading, not_allowed, ends_early, after_end, too_deep, too_many, Out, got, bad, bind, Head, head_variable, head_constant, head_apply1, head_apply2, Opening, open_pred0, open_pred1, open_pred2, open_negation, open_binary, open_quantified, with_byte, sign, name, part, head, argument, arguments, applied, term_by, read_term, opening, connective, bound, rest, formula_by, read_formula}
use Rattle.logic.proofs.Steps.{is_opens, is_closes, is_commas, is_digits, head_byte, opening_byte}

-- the words stand in the bytes from one place to the other
record Spelt (bytes words : List ℕ) (at i : ℕ) : Type 0 where
  spelt : drop at bytes ≡ words ++ drop i bytes
  place : i ≡ at + length words

then : {bytes ws vs : List ℕ} {at i j : ℕ} → Spelt bytes ws at i → Spelt bytes vs i j → Spelt bytes (ws ++ vs) at j
then {bytes} {ws} {vs} {at} {i} {j} a b =
    record {
      spelt = a.spelt ∙ ap (λ (l : List ℕ). ws ++ l) b.spelt ∙ sym (append_assoc ws vs (drop j bytes));
      place = omega (arith, length-append ws vs);
    }

pub record TermFound (most left : ℕ) (bytes : List ℕ) (t : Term) (at n i m : ℕ) : Type 0 where
  pub spelt : drop at bytes ≡ term_text t ++ drop i bytes
  pub place : i ≡ at + length (term_text t)
  pub named : TermNamed t
  pub count : m ≡ n + term_parts t
  pub few : m ≤ most
  pub flat : term_levels t ≤ left

pub record Found (most left : ℕ) (bytes : List ℕ) (a : Formula) (at n i m : ℕ) : Type 0 where
  pub spelt : drop at bytes ≡ text a ++ drop i bytes
  pub place : i ≡ at + length (text a)
  pub named : Named a
  pub count : m ≡ n + parts a
  pub few : m ≤ most
  pub flat : levels a ≤ left

-- a fault that a reader finds: anything but bytes behind the end
abbrev pub Inner : Misreading → Type 0
Inner not_allowed = Unit {0}
Inner ends_early = Unit {0}
Inner after_end = ⊥
Inner too_deep = Unit {0}
Inner too_many = Unit {0}

-- P holds of what was read
abbrev pub Gives : {A : Type 0} → (A → ℕ → ℕ → Type 0) → Out A → Type 0
Gives P (got x i m) = P x i m
Gives P (bad k i) = Inner k

bind_gives : {A B : Type 0} (P : A → ℕ → ℕ → Type 0) (Q : B → ℕ → ℕ → Type 0) (o : Out A) (f : A → ℕ → ℕ → Out B) → Gives P o → ((x : A) (i m : ℕ) → P x i m → Gives Q (f x i m)) → Gives Q (bind o f)
bind_gives P Q (got x i m) f h k = k x i m h
bind_gives P Q (bad q i) f h k = h

byte_gives : {A : Type 0} (P : A → ℕ → ℕ → Type 0) (bytes : List ℕ) (at : ℕ) (o : Out A) → (Spelt bytes (get_or bytes at 0 ∷ []) at (at + 1) → Gives P o) → Gives P (cond (ltb at (length bytes)) o (bad ends_early at))
byte_gives P bytes at o h =
    cond_both (ltb at (length bytes)) o (bad ends_early at) (Gives P)
    (λ e. h (record { spelt = drop_more bytes at 0 (ltb-true at (length bytes) e); place = refl }))
    (λ _. tt)

-- the words stand there, and are no part of their own
record Signed (bytes words : List ℕ) (at n i m : ℕ) : Type 0 where
  stands : Spelt bytes words at i
  count : m ≡ n

-- the byte of x gives x
test_gives : {A : Type 0} (byte_of : A → ℕ) (x : A) (bytes : List ℕ) (at n b : ℕ) (y : Out A) → Spelt bytes (b ∷ []) at (at + 1) → Gives (λ z i m. Signed bytes (byte_of z ∷ []) at n i m) y → Gives (λ z i m. Signed bytes (byte_of z ∷ []) at n i m) (cond (eqb b (byte_of x)) (got x (at + 1) n) y)
test_gives byte_of x bytes at n b y s k =
    cond_both (eqb b (byte_of x)) _ y (Gives (λ z i m. Signed bytes (byte_of z ∷ []) at n i m))
    (λ e. record { stands = rw (eqb-true b (byte_of x) e) at s; count = refl })
    (λ _. k)

sign_gives : {test : ℕ → Bool} (w : ℕ) → ((b : ℕ) → test b ≡ eqb b w) → (bytes : List ℕ) (at n : ℕ) → Gives (λ (_ : Unit {0}) i m. Signed bytes (w ∷ []) at n i m) (with_byte bytes at (λ b. cond (test b) (got tt (at + 1) n) (bad not_allowed at)))
sign_gives w only bytes at n = byte_gives _ bytes at _ (λ s. rw only (test_gives (λ _. w) tt bytes at n _ _ s tt))

-- behind the front stands the digit of a name
abbrev Name : List ℕ → List ℕ → ℕ → ℕ → ℕ → ℕ → ℕ → Type 0
Name bytes front at n d i m = (d < names) × Signed bytes (front ++ (digit d ∷ [])) at n i m

digit_name : {bytes front : List ℕ} {start n at k : ℕ} (b : ℕ) → Signed bytes front start n at k → Spelt bytes (b ∷ []) at (at + 1) → (leb 48 b && ltb b 56) ≡ true → Name bytes front start n (b - 48) (at + 1) k
digit_name b f s e =
    let both = and_parts (leb 48 b) (ltb b 56) e in
    let low = leb-true 48 b both.0 in
    let high = ltb-true b 56 both.1 in
    let same : b ≡ 48 + (b - 48) = omega arith in
    (omega arith, record { stands = then f.stands (rw same at s); count = f.count })

name_gives : {bytes front : List ℕ} {start n at k : ℕ} → Signed bytes front start n at k → Gives (Name bytes front start n) (name bytes at k)
name_gives {bytes} {front} {start} {n} {at} f =
    byte_gives _ bytes at _
    (λ s. cond_both (is (class_of (get_or bytes at 0)) digits) _ _ (Gives (Name bytes front start n))
    (λ e. digit_name _ f s (sym (is_digits (get_or bytes at 0)) ∙ e))
    (λ _. tt))

-- a part began: there was a level left and a part
record Begun (most left : ℕ) (bytes : List ℕ) (w at n i m : ℕ) : Type 0 where
  deep : 0 < left
  many : n < most
  signed : Signed bytes (w ∷ []) at (n + 1) i m

part_gives : {A : Type 0} (byte_of : A → ℕ) (x : A) (most left : ℕ) (bytes : List ℕ) (at n b : ℕ) (y : Out A) → Spelt bytes (b ∷ []) at (at + 1) → Gives (λ z i m. Begun most left bytes (byte_of z) at n i m) y → Gives (λ z i m. Begun most left bytes (byte_of z) at n i m) (cond (eqb b (byte_of x)) (part most x left at n) y)
part_gives {A} byte_of x most left bytes at n b y s k =
    let P : A → ℕ → ℕ → Type 0 = λ z i m. Begun most left bytes (byte_of z) at n i m in
    cond_both (eqb b (byte_of x)) _ y (Gives P)
    (λ e. cond_both (eqb left 0) _ _ (Gives P) (λ _. tt)
    (λ apart. cond_both (ltb n most) _ _ (Gives P)
    (λ less. record { deep = omega (arith, eqb-false left 0 apart); many = ltb-true n most less; signed = record { stands = rw (eqb-true b (byte_of x) e) at s; count = refl } })
    (λ _. tt)))
    (λ _. k)

head_gives : (most left : ℕ) (bytes : List ℕ) (at n : ℕ) → Gives (λ x i m. Begun most left bytes (head_byte x) at n i m) (head most left bytes at n)
head_gives most left bytes at n =
    byte_gives _ bytes at _
    (λ s. part_gives head_byte head_variable most left bytes at n _ _ s
    (part_gives head_byte head_constant most left bytes at n _ _ s
    (part_gives head_byte head_apply1 most left bytes at n _ _ s
    (part_gives head_byte head_apply2 most left bytes at n _ _ s tt))))

term_stands : {most left : ℕ} {bytes : List ℕ} {t : Term} {at n i m : ℕ} → TermFound most left bytes t at n i m → Spelt bytes (term_text t) at i
term_stands f = record { spelt = f.spelt; place = f.place }

term_found : {most left : ℕ} {bytes : List ℕ} {t : Term} {at n i m : ℕ} → Spelt bytes (term_text t) at i → TermNamed t → m ≡ n + term_parts t → m ≤ most → term_levels t ≤ left → TermFound most left bytes t at n i m
term_found s named count few flat = record { spelt = s.spelt; place = s.place; named = named; count = count; few = few; flat = flat }

stands : {most left : ℕ} {bytes : List ℕ} {a : Formula} {at n i m : ℕ} → Found most left bytes a at n i m → Spelt bytes (text a) at i
stands f = record { spelt = f.spelt; place = f.place }

found : {most left : ℕ} {bytes : List ℕ} {a : Formula} {at n i m : ℕ} → Spelt bytes (text a) at i → Named a → m ≡ n + parts a → m ≤ most → levels a ≤ left → Found most left bytes a at n i m
found s named count few flat = record { spelt = s.spelt; place = s.place; named = named; count = count; few = few; flat = flat }

-- the words stand there, as so many parts on so many levels
record Taken (most left : ℕ) (bytes words : List ℕ) (N : Type 0) (size depth at n i m : ℕ) : Type 0 where
  stands : Spelt bytes words at i
  named : N
  count : m ≡ n + size
  few : m ≤ most
  flat : depth ≤ left

-- what the reader gives is a term that stands there
abbrev Finds : (ℕ → ℕ → Out Term) → ℕ → ℕ → List ℕ → Type 0
Finds rec most left bytes = (at n : ℕ) → Gives (λ t i m. TermFound most left bytes t at n i m) (rec at n)

argument_gives : (rec : ℕ → ℕ → Out Term) (most left : ℕ) (bytes : List ℕ) → Finds rec most left bytes → (at n : ℕ) → Gives (λ s i m. Taken most left bytes (enclosed (term_text s)) (TermNamed s) (term_parts s) (term_levels s) at n i m) (argument rec bytes at n)
argument_gives rec most left bytes ih at n =
    bind_gives _ _ (sign opens bytes at n) _ (sign_gives 'open' is_opens bytes at n)
    (λ _ i1 m1 s1. bind_gives _ _ (rec i1 m1) _ (ih i1 m1)
    (λ s i2 m2 s2. bind_gives _ _ (sign closes bytes i2 m2) _ (sign_gives 'close' is_closes bytes i2 m2)
    (λ _ i3 m3 s3.
    record { stands = then s1.stands (then (term_stands s2) s3.stands); named = s2.named; count = omega arith; few = omega arith; flat = s2.flat })))

arguments_gives : (rec : ℕ → ℕ → Out Term) (most left : ℕ) (bytes : List ℕ) → Finds rec most left bytes → (at n : ℕ) → Gives (λ p i m. Taken most left bytes (paired (term_text p.0) (term_text p.1)) (TermNamed p.0 × TermNamed p.1) (term_parts p.0 + term_parts p.1) (max (term_levels p.0) (term_levels p.1)) at n i m) (arguments rec bytes at n)
arguments_gives rec most left bytes ih at n =
    bind_gives _ _ (sign opens bytes at n) _ (sign_gives 'open' is_opens bytes at n)
    (λ _ i1 m1 s1. bind_gives _ _ (rec i1 m1) _ (ih i1 m1)
    (λ s i2 m2 s2. bind_gives _ _ (sign commas bytes i2 m2) _ (sign_gives 'comma' is_commas bytes i2 m2)
    (λ _ i3 m3 s3. bind_gives _ _ (rec i3 m3) _ (ih i3 m3)
    (λ t i4 m4 s4. bind_gives _ _ (sign closes bytes i4 m4) _ (sign_gives 'close' is_closes bytes i4 m4)
    (λ _ i5 m5 s5.
    record {
      stands = then s1.stands (then (term_stands s2) (then s3.stands (then (term_stands s4) s5.stands)));
      named = (s2.named, s4.named);
      count = omega arith;
      few = omega arith;
      flat = omega arith;
    })))))

-- what stands after the head and the digit, which stand from `start` on and are part n + 1
applied_gives : (rec : ℕ → ℕ → Out Term) (most left : ℕ) (bytes : List ℕ) → Finds rec most (left - 1) bytes → (h : Head) (d start n at k : ℕ) → 0 < left → n < most → Name bytes (head_byte h ∷ []) start (n + 1) d at k → Gives (λ t i m. TermFound most left bytes t start n i m) (applied rec h d bytes at k)
applied_gives rec most left bytes ih head_variable d start n at k deep many (ok, s) = term_found s.stands ok s.count (omega arith) (omega arith)
applied_gives rec most left bytes ih head_constant d start n at k deep many (ok, s) = term_found s.stands ok s.count (omega arith) (omega arith)
applied_gives rec most left bytes ih head_apply1 d start n at k deep many (ok, s) =
    bind_gives _ _ (argument rec bytes at k) _ (argument_gives rec most (left - 1) bytes ih at k)
    (λ a i m f. term_found (then s.stands f.stands) (ok, f.named) (omega arith) f.few (omega arith))
applied_gives rec most left bytes ih head_apply2 d start n at k deep many (ok, s) =
    bind_gives _ _ (arguments rec bytes at k) _ (arguments_gives rec most (left - 1) bytes ih at k)
    (λ p i m f. term_found (then s.stands f.stands) (ok, f.named.0, f.named.1) (omega arith) f.few (omega arith))

term_by_gives : (rec : ℕ → ℕ → Out Term) (most left : ℕ) (bytes : List ℕ) → (0 < left → Finds rec most (left - 1) bytes) → Finds (term_by rec most left bytes) most left bytes
term_by_gives rec most left bytes ih at n =
    bind_gives _ _ (head most left bytes at n) _ (head_gives most left bytes at n)
    (λ h i1 m1 s1. bind_gives _ _ (name bytes i1 m1) _ (name_gives s1.signed)
    (λ d i2 m2 s2. applied_gives rec most left bytes (ih s1.deep) h d at n i2 m2 s1.deep s1.many s2))

pub term_gives : (most left : ℕ) (bytes : List ℕ) (at n : ℕ) → Gives (λ t i m. TermFound most left bytes t at n i m) (read_term most left bytes at n)
term_gives most zero bytes at n = term_by_gives (λ at n. bad too_deep at) most 0 bytes (λ z. absurd (omega arith)) at n
term_gives most (suc left) bytes at n = term_by_gives (read_term most left bytes) most (suc left) bytes (λ _. rw sub-one (term_gives most left bytes)) at n

opening_gives : (most left : ℕ) (bytes : List ℕ) (at n : ℕ) → Gives (λ x i m. Begun most left bytes (opening_byte x) at n i m) (opening most left bytes at n)
opening_gives most left bytes at n =
    byte_gives _ bytes at _
    (λ s. part_gives opening_byte open_pred0 most left bytes at n _ _ s
    (part_gives opening_byte open_pred1 most left bytes at n _ _ s
    (part_gives opening_byte open_pred2 most left bytes at n _ _ s
    (part_gives opening_byte open_negation most left bytes at n _ _ s
    (part_gives opening_byte open_binary most left bytes at n _ _ s
    (part_gives opening_byte (open_quantified every) most left bytes at n _ _ s
    (part_gives opening_byte (open_quantified some) most left bytes at n _ _ s tt)))))))

connective_gives : (bytes : List ℕ) (at n : ℕ) → Gives (λ k i m. Signed bytes (joint k ∷ []) at n i m) (connective bytes at n)
connective_gives bytes at n =
    byte_gives _ bytes at _
    (λ s. test_gives joint conjunction bytes at n _ _ s
    (test_gives joint disjunction bytes at n _ _ s
    (test_gives joint implication bytes at n _ _ s tt)))

bound_gives : (bytes : List ℕ) (at n : ℕ) → Gives (Name bytes ('x' ∷ []) at n) (bound bytes at n)
bound_gives bytes at n =
    bind_gives _ _ (with_byte bytes at (λ b. cond (eqb b 'x') (got tt (at + 1) n) (bad not_allowed at))) (λ (_ : Unit {0}). name bytes)
    (sign_gives 'x' (λ _. refl) bytes at n) (λ _ i m s. name_gives s)

-- what stands after the opening, which stands from `start` on and is part n + 1
rest_gives : (rec : ℕ → ℕ → Out Formula) (most left : ℕ) (bytes : List ℕ) → ((at n : ℕ) → Gives (λ a i m. Found most (left - 1) bytes a at n i m) (rec at n)) → (o : Opening) (start n at k : ℕ) → Begun most left bytes (opening_byte o) start n at k → Gives (λ a i m. Found most left bytes a start n i m) (rest rec most (left - 1) o bytes at k)
rest_gives rec most left bytes ih open_pred0 start n at k s =
    bind_gives _ _ (name bytes at k) _ (name_gives s.signed)
    (λ d i1 m1 s1. found s1.1.stands s1.0 s1.1.count (omega arith) (omega arith))
rest_gives rec most left bytes ih open_pred1 start n at k s =
    bind_gives _ _ (name bytes at k) _ (name_gives s.signed)
    (λ d i1 m1 s1. bind_gives _ _ (argument (read_term most (left - 1) bytes) bytes i1 m1) _ (argument_gives _ most (left - 1) bytes (term_gives most (left - 1) bytes) i1 m1)
    (λ a i2 m2 s2. found (then s1.1.stands s2.stands) (s1.0, s2.named) (omega arith) s2.few (omega arith)))
rest_gives rec most left bytes ih open_pred2 start n at k s =
    bind_gives _ _ (name bytes at k) _ (name_gives s.signed)
    (λ d i1 m1 s1. bind_gives _ _ (arguments (read_term most (left - 1) bytes) bytes i1 m1) _ (arguments_gives _ most (left - 1) bytes (term_gives most (left - 1) bytes) i1 m1)
    (λ p i2 m2 s2. found (then s1.1.stands s2.stands) (s1.0, s2.named.0, s2.named.1) (omega arith) s2.few (omega arith)))
rest_gives rec most left bytes ih open_negation start n at k s =
    bind_gives _ _ (rec at k) _ (ih at k)
    (λ a i1 m1 s1. found (then s.signed.stands (stands s1)) s1.named (omega arith) s1.few (omega arith))
rest_gives rec most left bytes ih open_binary start n at k s =
    bind_gives _ _ (rec at k) _ (ih at k)
    (λ a i1 m1 s1. bind_gives _ _ (connective bytes i1 m1) _ (connective_gives bytes i1 m1)
    (λ c i2 m2 s2. bind_gives _ _ (rec i2 m2) _ (ih i2 m2)
    (λ b i3 m3 s3. bind_gives _ _ (sign closes bytes i3 m3) _ (sign_gives 'close' is_closes bytes i3 m3)
    (λ _ i4 m4 s4. found (then s.signed.stands (then (stands s1) (then s2.stands (then (stands s3) s4.stands)))) (s1.named, s3.named) (omega arith) (omega arith) (omega arith)))))
rest_gives rec most left bytes ih (open_quantified q) start n at k s =
    bind_gives _ _ (bound bytes at k) _ (bound_gives bytes at k)
    (λ x i1 m1 s1. bind_gives _ _ (rec i1 m1) _ (ih i1 m1)
    (λ a i2 m2 s2. found (then s.signed.stands (then s1.1.stands (stands s2))) (s1.0, s2.named) (omega arith) s2.few (omega arith)))

by_gives : (rec : ℕ → ℕ → Out Formula) (most left : ℕ) (bytes : List ℕ) → (0 < left → (at n : ℕ) → Gives (λ a i m. Found most (left - 1) bytes a at n i m) (rec at n)) → (at n : ℕ) → Gives (λ a i m. Found most left bytes a at n i m) (formula_by rec most left bytes at n)
by_gives rec most left bytes ih at n =
    bind_gives _ _ (opening most left bytes at n) _ (opening_gives most left bytes at n)
    (λ o i1 m1 s1. rest_gives rec most left bytes (ih s1.deep) o at n i1 m1 s1)

pub gives : (most left : ℕ) (bytes : List ℕ) (at n : ℕ) → Gives (λ a i m. Found most left bytes a at n i m) (read_formula most left bytes at n)
gives most zero bytes at n = by_gives (λ at n. bad too_deep at) most 0 bytes (λ z. absurd (omega arith)) at n
gives most (suc left) bytes at n = by_gives (read_formula most left bytes) most (suc left) bytes (λ _. rw sub-one (gives most left bytes)) at n
