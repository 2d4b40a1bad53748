-- The bytes that are read are exactly the texts within the limits, and no text has two meanings. Assumes nothing.
use Rattle.std.proofs.Common.{◌≡◌, ℕ, ◌+◌, ◌<◌, ◌≤◌, Bool, true, false, ◌||◌, eqb, ltb, List, [], ◌++◌, length, get_or, take, drop, sym, refl, ap, ◌∙◌, subst, arith}
use Rattle.std.proofs.lemmas.List.{append-nil, drop_all, take_at}
use Rattle.std.proofs.lemmas.Bool.{ltb-true, ltb-false, le-ltb, cond_both, both_ways}
use Rattle.logic.specs.Syntax.{Term, variable, constant, apply1, apply2, every, some, Formula, pred0, pred1, pred2, negation, binary, quantified}
use Rattle.logic.specs.Signs.{'x', 'c', 'f', 'g'}
use Rattle.logic.specs.Text.{term_text, text, term_parts, parts, term_levels, levels, TermNamed, Named, TermWellFormed, WellFormed, ReadsTerm, Reads, most_parts, most_levels}
use Rattle.logic.specs.Reading.{after_end, Out, got, bad, read_term, read_formula, reads, faulty, closed, formula_of, term_of}
use Rattle.logic.specs.OneMeaning.{OneMeaning}
use Rattle.logic.proofs.Complete.{term_complete, complete}
use Rattle.logic.proofs.Sound.{TermFound, Found, Inner, Gives, term_gives, gives}

-- the bytes end where the reader stands
ends : {A : Type 0} (bytes : List ℕ) (o : Out A) (x : A) (i m : ℕ) → o ≡ got x i m → length bytes ≤ i → closed bytes o ≡ reads x
ends bytes o x i m e l = rw (e, le-ltb i (length bytes) l) refl

-- what is read as a whole reaches to the end
record Whole {A : Type 0} (P : A → ℕ → ℕ → Type 0) (bytes : List ℕ) (x : A) : Type 0 where
  i : ℕ
  m : ℕ
  holds : P x i m
  end : length bytes ≤ i

whole : {A : Type 0} (P : A → ℕ → ℕ → Type 0) (bytes : List ℕ) (o : Out A) (x : A) → Gives P o → closed bytes o ≡ reads x → Whole P bytes x
whole P bytes (got y i m) x h e =
    cond_both (ltb i (length bytes)) (faulty after_end i) (reads y) (λ v. v ≡ reads x → Whole P bytes x)
    (λ _ z. let no : ◌≡◌ {A = ℕ} 0 1 = cc in absurd (omega arith))
    (λ l z. let same : y ≡ x = cc in record { i = i; m = m; holds = subst (λ w. P w i m) same h; end = ltb-false i (length bytes) l })
    e
whole P bytes (bad k i) x h e = let no : ◌≡◌ {A = ℕ} 0 1 = cc in absurd (omega arith)

-- what is read before bytes that do not belong to it
record Part {A : Type 0} (P : A → ℕ → ℕ → Type 0) (bytes : List ℕ) (i : ℕ) : Type 0 where
  x : A
  m : ℕ
  holds : P x i m
  more : i < length bytes

part : {A : Type 0} (P : A → ℕ → ℕ → Type 0) (bytes : List ℕ) (o : Out A) (i : ℕ) → Gives P o → closed bytes o ≡ faulty after_end i → Part P bytes i
part P bytes (got y j m) i h e =
    cond_both (ltb j (length bytes)) (faulty after_end j) (reads y) (λ v. v ≡ faulty after_end i → Part P bytes i)
    (λ l z. let same : j ≡ i = cc in record { x = y; m = m; holds = subst (λ w. P y w m) same h; more = subst (λ w. w < length bytes) same (ltb-true j (length bytes) l) })
    (λ _ z. let no : ◌≡◌ {A = ℕ} 0 1 = cc in absurd (omega arith))
    e
part P bytes (bad k j) i h e = let same : k ≡ after_end = cc in absurd (subst Inner same h)

-- words with nothing behind them
alone : (bytes words : List ℕ) (i : ℕ) → bytes ≡ words ++ drop i bytes → length bytes ≤ i → bytes ≡ words
alone bytes words i e l = e ∙ ap (λ (xs : List ℕ). words ++ xs) (drop_all i bytes l) ∙ append-nil words

-- words before a place
before : (bytes words : List ℕ) (i : ℕ) → bytes ≡ words ++ drop i bytes → i ≡ length words → words ≡ take i bytes
before bytes words i e l = sym (ap (take i) e ∙ take_at words (drop i bytes) i (sym l))

pub formula_reads : (bytes : List ℕ) (a : Formula) → Reads bytes a → formula_of bytes ≡ reads a
formula_reads bytes a r =
    let c = complete a most_parts most_levels bytes 0 0 [] r.formed.named r.formed.flat (omega arith) (r.spelt ∙ sym (append-nil (text a))) in
    ends bytes (read_formula most_parts most_levels bytes 0 0) a (0 + length (text a)) (0 + parts a) c.answer (omega (arith, ap length r.spelt))

pub formula_read : (bytes : List ℕ) (a : Formula) → formula_of bytes ≡ reads a → Reads bytes a
formula_read bytes a e =
    let w = whole (λ a i m. Found most_parts most_levels bytes a 0 0 i m) bytes (read_formula most_parts most_levels bytes 0 0) a (gives most_parts most_levels bytes 0 0) e in
    let f = w.holds in
    record {
      spelt = alone bytes (text a) w.i f.spelt w.end;
      formed = record { named = f.named; few = omega arith; flat = f.flat };
    }

pub formula_after : (bytes : List ℕ) (i : ℕ) → formula_of bytes ≡ faulty after_end i → (a : Formula) × WellFormed a × (text a ≡ take i bytes) × (i < length bytes)
formula_after bytes i e =
    let w = part (λ a i m. Found most_parts most_levels bytes a 0 0 i m) bytes (read_formula most_parts most_levels bytes 0 0) i (gives most_parts most_levels bytes 0 0) e in
    let f = w.holds in
    (w.x, record { named = f.named; few = omega arith; flat = f.flat }, before bytes (text w.x) i f.spelt (omega arith), w.more)

pub term_reads : (bytes : List ℕ) (t : Term) → ReadsTerm bytes t → term_of bytes ≡ reads t
term_reads bytes t r =
    let c = term_complete t most_parts most_levels bytes 0 0 [] r.formed.named r.formed.flat (omega arith) (r.spelt ∙ sym (append-nil (term_text t))) in
    ends bytes (read_term most_parts most_levels bytes 0 0) t (0 + length (term_text t)) (0 + term_parts t) c.answer (omega (arith, ap length r.spelt))

pub term_read : (bytes : List ℕ) (t : Term) → term_of bytes ≡ reads t → ReadsTerm bytes t
term_read bytes t e =
    let w = whole (λ t i m. TermFound most_parts most_levels bytes t 0 0 i m) bytes (read_term most_parts most_levels bytes 0 0) t (term_gives most_parts most_levels bytes 0 0) e in
    let f = w.holds in
    record {
      spelt = alone bytes (term_text t) w.i f.spelt w.end;
      formed = record { named = f.named; few = omega arith; flat = f.flat };
    }

pub term_after : (bytes : List ℕ) (i : ℕ) → term_of bytes ≡ faulty after_end i → (t : Term) × TermWellFormed t × (term_text t ≡ take i bytes) × (i < length bytes)
term_after bytes i e =
    let w = part (λ t i m. TermFound most_parts most_levels bytes t 0 0 i m) bytes (read_term most_parts most_levels bytes 0 0) i (term_gives most_parts most_levels bytes 0 0) e in
    let f = w.holds in
    (w.x, record { named = f.named; few = omega arith; flat = f.flat }, before bytes (term_text w.x) i f.spelt (omega arith), w.more)

same_answer : {A : Type 0} (o : Out A) (x y : A) (i j m n : ℕ) → o ≡ got x i m → o ≡ got y j n → x ≡ y
same_answer o x y i j m n p q = cc

same_formula : (a b : Formula) → Named a → Named b → text a ≡ text b → a ≡ b
same_formula a b na nb e =
    let left : ℕ = levels a + levels b in
    let most : ℕ = parts a + parts b in
    let ra = complete a most left (text a) 0 0 [] na (omega arith) (omega arith) (sym (append-nil (text a))) in
    let rb = complete b most left (text a) 0 0 [] nb (omega arith) (omega arith) (e ∙ sym (append-nil (text b))) in
    same_answer (read_formula most left (text a) 0 0) a b (0 + length (text a)) (0 + length (text b)) (0 + parts a) (0 + parts b) ra.answer rb.answer

same_term : (s t : Term) → TermNamed s → TermNamed t → term_text s ≡ term_text t → s ≡ t
same_term s t ns nt e =
    let left : ℕ = term_levels s + term_levels t in
    let most : ℕ = term_parts s + term_parts t in
    let rs = term_complete s most left (term_text s) 0 0 [] ns (omega arith) (omega arith) (sym (append-nil (term_text s))) in
    let rt = term_complete t most left (term_text s) 0 0 [] nt (omega arith) (omega arith) (e ∙ sym (append-nil (term_text t))) in
    same_answer (read_term most left (term_text s) 0 0) s t (0 + length (term_text s)) (0 + length (term_text t)) (0 + term_parts s) (0 + term_parts t) rs.answer rt.answer

-- the first byte is a term's
abbrev begins_term : List ℕ → Bool
begins_term bytes = let b = get_or bytes 0 0 in eqb b 'x' || eqb b 'c' || eqb b 'f' || eqb b 'g'

term_first : (t : Term) → begins_term (term_text t) ≡ true
term_first (variable x) = refl
term_first (constant c) = refl
term_first (apply1 f s) = refl
term_first (apply2 f s t) = refl

formula_first : (a : Formula) → begins_term (text a) ≡ false
formula_first (pred0 p) = refl
formula_first (pred1 p s) = refl
formula_first (pred2 p s t) = refl
formula_first (negation a) = refl
formula_first (binary k a b) = refl
formula_first (quantified every x a) = refl
formula_first (quantified some x a) = refl

pub one_meaning : OneMeaning
one_meaning =
    record {
      of_formulas = same_formula;
      of_terms = same_term;
      of_both = λ a t e. both_ways (begins_term (text a)) (formula_first a) (ap begins_term e ∙ term_first t);
    }
