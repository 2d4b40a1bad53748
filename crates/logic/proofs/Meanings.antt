-- What a reader's answer means for the bytes as a whole. Assumes nothing.
use Rattle.std.proofs.Common.{◌≡◌, ℕ, suc, ◌+◌, ◌<◌, ltb, List, [], ◌∷◌, ◌++◌, length, get_or, take, drop, sym, refl, ap, ◌∙◌, subst, append_assoc, append-nil, arith, length-append, length-drop}
use Rattle.std.proofs.lemmas.List.{take_at, get_or_at}
use Rattle.std.proofs.lemmas.Bool.{cond_both}
use Rattle.logic.specs.Text.{most_parts, most_levels}
use Rattle.logic.specs.Reading.{Misreading, not_allowed, ends_early, after_end, too_deep, too_many, Out, got, bad, read_term, read_formula, reads, faulty, closed, formula_of, term_of}
use Rattle.logic.specs.Misreadings.{Grammar, formulas, terms, GoesOn, Within, AfterEnd, Means}
use Rattle.logic.proofs.Languages.{Language, End, Then}
use Rattle.logic.proofs.Serves.{Stops, Serves}
use Rattle.logic.proofs.Misread.{term_serves, formula_serves}
use Rattle.logic.proofs.Exact.{formula_after, term_after}

-- bytes that begin with w, and the byte b behind it
first_of : (bytes w r : List ℕ) (i : ℕ) → bytes ≡ w ++ r → i ≡ length w → take i bytes ≡ w
first_of bytes w r i e l = ap (take i) e ∙ take_at w r i (sym l)

next_of : (bytes w s : List ℕ) (b i : ℕ) → bytes ≡ w ++ (b ∷ s) → i ≡ length w → take (i + 1) bytes ≡ w ++ (b ∷ [])
next_of bytes w s b i e l =
    ap (take (i + 1)) (e ∙ sym (append_assoc w (b ∷ []) s)) ∙ take_at (w ++ (b ∷ [])) s (i + 1) (omega (arith, length-append w (b ∷ [])))

inside : (bytes r : List ℕ) (b i : ℕ) → drop i bytes ≡ b ∷ r → i < length bytes
inside bytes r b i e = omega (arith, length-drop i bytes, ap length e)

module _ {A : Type 0} (G : Grammar A) (bytes : List ℕ) where
  abbrev Whole : Language
  Whole = Then G.named G.spells G.begins End

  -- a tree is a text of the language
  whole : (a : A) → G.named a → (u : List ℕ) → G.spells a ≡ u → Whole u (G.begins a)
  whole a ok u e =
      record { tree = a; ok = ok; v = []; f = []; spelt = sym e ∙ sym (append-nil (G.spells a)); marked = sym (append-nil (G.begins a)); after = (refl, refl) }

  spelt_by : (u e : List ℕ) (q : Whole u e) → G.spells q.tree ≡ u
  spelt_by u e q = sym (q.spelt ∙ ap (λ (l : List ℕ). G.spells q.tree ++ l) q.after.0 ∙ append-nil (G.spells q.tree))

  marked_by : (u e : List ℕ) (q : Whole u e) → G.begins q.tree ≡ e
  marked_by u e q = sym (q.marked ∙ ap (λ (l : List ℕ). G.begins q.tree ++ l) q.after.1 ∙ append-nil (G.begins q.tree))

  module _ (k : Misreading) (i : ℕ) (s : Stops most_parts bytes Whole 0 0 k i) where
    place : i ≡ length s.w
    place = omega (arith, s.place)

    seen : take i bytes ≡ s.w
    seen = first_of bytes s.w (drop i bytes) i s.spelt place

    next : (b : ℕ) (r : List ℕ) → drop i bytes ≡ b ∷ r → take (i + 1) bytes ≡ s.w ++ (b ∷ [])
    next b r h = next_of bytes s.w r b i (s.spelt ∙ ap (λ (l : List ℕ). s.w ++ l) h) place

    -- a tree that goes on from the bytes before the place, and one that goes on with the byte b, as texts of the language
    before_whole : (a : A) (g : GoesOn G (take i bytes) a) → Whole (s.w ++ g.rest) (G.begins a)
    before_whole a g = whole a g.named _ (g.goes ∙ ap (λ (l : List ℕ). l ++ g.rest) seen)

    with_whole : (b : ℕ) (r : List ℕ) → drop i bytes ≡ b ∷ r → (a : A) (g : GoesOn G (take (i + 1) bytes) a) → Whole (s.w ++ (b ∷ g.rest)) (G.begins a)
    with_whole b r h a g =
        whole a g.named _ (g.goes ∙ ap (λ (l : List ℕ). l ++ g.rest) (next b r h) ∙ append_assoc s.w (b ∷ []) g.rest)

    front : (ds e : List ℕ) → ds ≡ s.d ++ e → take i ds ≡ s.d
    front ds e h = first_of ds s.d e i h (omega (arith, s.place, s.marked))

    fits : Within G (take i bytes)
    fits a g =
        let f = s.fixed g.rest (G.begins a) (before_whole a g) in
        let same : take (length (take i bytes)) (G.begins a) ≡ s.d = ap (λ k. take k (G.begins a)) (ap length seen ∙ sym place) ∙ front (G.begins a) f.0 f.1 in
        record { flat = rw same s.flat; few = rw same (omega (arith, s.count, s.few)) }

    goes_on : (u e : List ℕ) (q : Whole (s.w ++ u) e) → GoesOn G (take i bytes) q.tree
    goes_on u e q = record { named = q.ok; rest = u; goes = spelt_by (s.w ++ u) e q ∙ ap (λ (l : List ℕ). l ++ u) (sym seen) }

    -- the same with the byte b
    goes_with : (b : ℕ) (r u e : List ℕ) → drop i bytes ≡ b ∷ r → (q : Whole (s.w ++ (b ∷ u)) e) → GoesOn G (take (i + 1) bytes) q.tree
    goes_with b r u e h q =
        record {
          named = q.ok;
          rest = u;
          goes = spelt_by (s.w ++ (b ∷ u)) e q ∙ sym (append_assoc s.w (b ∷ []) u) ∙ ap (λ (l : List ℕ). l ++ u) (sym (next b r h));
        }

    not_whole : ((e : List ℕ) → Whole (s.w ++ []) e → ⊥) → (a : A) → G.named a → G.spells a ≡ take i bytes → ⊥
    not_whole none a ok e = none (G.begins a) (whole a ok _ (e ∙ seen ∙ sym (append-nil s.w)))

    -- the level of the part that begins at the place
    level_at : (b l : ℕ) (r : List ℕ) → drop i bytes ≡ b ∷ r → ((u f : List ℕ) → Whole (s.w ++ (b ∷ u)) f → (g : List ℕ) × (f ≡ s.d ++ (l ∷ g))) → (a : A) → GoesOn G (take (i + 1) bytes) a → (get_or (G.begins a) i 0 ≡ l) × (take i (G.begins a) ≡ s.d)
    level_at b l r h every a g =
        let f = every g.rest (G.begins a) (with_whole b r h a g) in (
          ap (λ (z : List ℕ). get_or z i 0) f.1 ∙ get_or_at s.d l f.0 0 i (omega (arith, s.place, s.marked)),
          front (G.begins a) (l ∷ f.0) f.1,
        )

  stop_means : (k : Misreading) (i : ℕ) → Stops most_parts bytes Whole 0 0 k i → Means G bytes k i
  stop_means not_allowed i s =
      let q = s.alive.2 in
      let c = s.stuck in
      record {
        within = inside bytes c.1 c.0 i c.2;
        tree = q.tree;
        before = goes_on not_allowed i s s.alive.0 _ q;
        fits = fits not_allowed i s;
        not_whole = not_whole not_allowed i s c.4;
        cannot = λ a g. c.3 g.rest (G.begins a) (with_whole not_allowed i s c.0 c.1 c.2 a g);
      }
  stop_means ends_early i s =
      let q = s.alive.2 in
      let c = s.stuck in
      let all : bytes ≡ s.w = s.spelt ∙ ap (λ (l : List ℕ). s.w ++ l) c.0 ∙ append-nil s.w in
      let same : take i bytes ≡ bytes = seen ends_early i s ∙ sym all in
      record {
        at_end = omega (arith, s.place, ap length all);
        tree = q.tree;
        before = subst (λ (z : List ℕ). GoesOn G z q.tree) same (goes_on ends_early i s s.alive.0 _ q);
        fits = subst (λ (z : List ℕ). Within G z) same (fits ends_early i s);
        not_whole = λ a ok e. not_whole ends_early i s c.1 a ok (e ∙ sym same);
      }
  stop_means after_end i s = absurd s.stuck
  stop_means too_deep i s =
      let c = s.stuck in
      let q = c.3.0.2 in
      record {
        within = inside bytes c.1 c.0 i c.2;
        tree = q.tree;
        with_it = goes_with too_deep i s c.0 c.1 c.3.0.0 _ c.2 q;
        fits = fits too_deep i s;
        level = λ a g. (level_at too_deep i s c.0 (suc most_levels) c.1 c.2 c.3.1 a g).0;
      }
  stop_means too_many i s =
      let c = s.stuck in
      let q = c.4.0.2 in
      let here = level_at too_many i s c.0 c.3 c.1 c.2 c.4.1 in
      record {
        within = inside bytes c.1 c.0 i c.2;
        tree = q.tree;
        with_it = goes_with too_many i s c.0 c.1 c.4.0.0 _ c.2 q;
        fits = fits too_many i s;
        begins_here = λ a g. rw (here a g).0 c.5;
        flat = λ a g. rw (here a g).0 c.6;
        full = λ a g. rw (here a g).1 (omega (arith, s.count, c.7));
      }

  -- what the bytes as a whole are told to be
  verdict_means : (o : Out A) → Serves most_parts bytes Whole (λ _. End) 0 0 o → ((i : ℕ) → closed bytes o ≡ faulty after_end i → AfterEnd G bytes i) → (k : Misreading) (i : ℕ) → closed bytes o ≡ faulty k i → Means G bytes k i
  verdict_means (got x j m) h behind k i told =
      cond_both (ltb j (length bytes)) (faulty after_end j) (reads x) (λ v. ((l : ℕ) → v ≡ faulty after_end l → AfterEnd G bytes l) → v ≡ faulty k i → Means G bytes k i)
      (λ _ b e. let kind : after_end ≡ k = cc in let place : j ≡ i = cc in subst (λ z. Means G bytes z i) kind (b i (ap (faulty after_end) place)))
      (λ _ _ e. let no : ◌≡◌ {A = ℕ} 0 1 = cc in absurd (omega arith))
      behind told
  verdict_means (bad c j) h behind k i e =
      let kind : c ≡ k = cc in
      let place : j ≡ i = cc in
      subst (λ z. Means G bytes z i) kind (subst (λ z. Means G bytes c z) place (stop_means c j h))

pub formula_means : (bytes : List ℕ) (k : Misreading) (i : ℕ) → formula_of bytes ≡ faulty k i → Means formulas bytes k i
formula_means bytes =
    verdict_means formulas bytes (read_formula most_parts most_levels bytes 0 0)
    (formula_serves most_parts bytes most_levels 1 (omega arith) (omega arith) End 0 0 (omega arith) ([], [], (refl, refl)))
    (λ i e. let a = formula_after bytes i e in record { within = a.3; tree = a.0; formed = a.1; whole = a.2 })

pub term_means : (bytes : List ℕ) (k : Misreading) (i : ℕ) → term_of bytes ≡ faulty k i → Means terms bytes k i
term_means bytes =
    verdict_means terms bytes (read_term most_parts most_levels bytes 0 0)
    (term_serves most_parts bytes most_levels 1 (omega arith) (omega arith) End 0 0 (omega arith) ([], [], (refl, refl)))
    (λ i e. let a = term_after bytes i e in record { within = a.3; tree = a.0; formed = a.1; whole = a.2 })
