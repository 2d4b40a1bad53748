-- A text within the limits is short, and what is wrong with the first bytes of a longer one is wrong with it. Assumes nothing.
use Rattle.std.proofs.Common.{◌≡◌, ℕ, zero, suc, ◌+◌, ◌*◌, ◌<◌, ◌≤◌, List, [], ◌∷◌, ◌++◌, length, take, sym, ap, ◌∙◌, subst, append_assoc, append-nil, arith, length-append}
use Rattle.std.proofs.lemmas.List.{length-take-le, take-take, take_all}
use Rattle.logic.specs.Syntax.{Term, variable, constant, apply1, apply2, Formula, pred0, pred1, pred2, negation, binary, quantified}
use Rattle.logic.specs.Text.{most_parts}
use Rattle.logic.specs.Depths.{enclosed_depths, term_depths, depths, begun}
use Rattle.logic.specs.Reading.{Misreading, not_allowed, ends_early, after_end, too_deep, too_many}
use Rattle.logic.specs.Misreadings.{Grammar, formulas, terms, Means}
use Rattle.logic.specs.Long.{longest, ToldEarly}
use Rattle.logic.proofs.Exact.{formula_read, term_read}
use Rattle.logic.proofs.Meanings.{formula_means, term_means}
use Rattle.logic.proofs.Shown.{shown}

-- in each leading piece there are at most five bytes for each part that begins in it, and c more
abbrev Ahead : ℕ → List ℕ → Type 0
Ahead c ds = (i : ℕ) → length (take i ds) ≤ c + 5 * begun (take i ds)

ahead_none : Ahead 0 []
ahead_none zero = omega arith
ahead_none (suc i) = omega arith

-- a byte at which no part begins
ahead_byte : (c : ℕ) (ds : List ℕ) → Ahead c ds → Ahead (suc c) (0 ∷ ds)
ahead_byte c ds h zero = omega arith
ahead_byte c ds h (suc i) = omega (arith, h i)

-- a byte at which a part begins, with at most four to follow
ahead_part : (l c e : ℕ) (ds : List ℕ) → e ≤ 4 + c → Ahead e ds → Ahead c (suc l ∷ ds)
ahead_part l c e ds k h zero = omega arith
ahead_part l c e ds k h (suc i) = omega (arith, h i)

-- whatever follows, the parts that begin here pay for all the bytes here
abbrev Pays : List ℕ → Type 0
Pays ds = (c : ℕ) (rest : List ℕ) → Ahead c rest → Ahead c (ds ++ rest)

enclosed_ahead : (s : List ℕ) → Pays s → (c : ℕ) (rest : List ℕ) → Ahead c rest → Ahead (suc (suc c)) (enclosed_depths s ++ rest)
enclosed_ahead s pays c rest h = ahead_byte _ _ (rw (append_assoc s (0 ∷ []) rest) (pays _ _ (ahead_byte c rest h)))

-- two lists parted by a byte, and a byte behind them
parted_ahead : (s t : List ℕ) → Pays s → Pays t → (c : ℕ) (rest : List ℕ) → Ahead c rest → Ahead (suc (suc c)) ((s ++ (0 ∷ (t ++ (0 ∷ [])))) ++ rest)
parted_ahead s t pays pays-t c rest h =
    rw (append_assoc s (0 ∷ (t ++ (0 ∷ []))) rest, append_assoc t (0 ∷ []) rest) (pays _ _ (ahead_byte _ _ (pays-t _ _ (ahead_byte c rest h))))

term_pays : (l : ℕ) (t : Term) → Pays (term_depths (suc l) t)
term_pays l (variable x) c rest h = ahead_part l c _ _ (omega arith) (ahead_byte c rest h)
term_pays l (constant k) c rest h = ahead_part l c _ _ (omega arith) (ahead_byte c rest h)
term_pays l (apply1 f s) c rest h = ahead_part l c _ _ (omega arith) (ahead_byte _ _ (enclosed_ahead _ (term_pays (suc l) s) c rest h))
term_pays l (apply2 f s t) c rest h =
    ahead_part l c _ _ (omega arith) (ahead_byte _ _ (ahead_byte _ _ (parted_ahead _ _ (term_pays (suc l) s) (term_pays (suc l) t) c rest h)))

formula_pays : (l : ℕ) (a : Formula) → Pays (depths (suc l) a)
formula_pays l (pred0 p) c rest h = ahead_part l c _ _ (omega arith) (ahead_byte c rest h)
formula_pays l (pred1 p s) c rest h = ahead_part l c _ _ (omega arith) (ahead_byte _ _ (enclosed_ahead _ (term_pays (suc l) s) c rest h))
formula_pays l (pred2 p s t) c rest h =
    ahead_part l c _ _ (omega arith) (ahead_byte _ _ (ahead_byte _ _ (parted_ahead _ _ (term_pays (suc l) s) (term_pays (suc l) t) c rest h)))
formula_pays l (negation a) c rest h = ahead_part l c _ _ (omega arith) (formula_pays (suc l) a c rest h)
formula_pays l (binary k a b) c rest h =
    ahead_part l c _ _ (omega arith) (parted_ahead _ _ (formula_pays (suc l) a) (formula_pays (suc l) b) c rest h)
formula_pays l (quantified q x a) c rest h =
    ahead_part l c _ _ (omega arith) (ahead_byte _ _ (ahead_byte _ _ (formula_pays (suc l) a c rest h)))

-- a leading piece that fits the limits is short
short_piece : (ds : List ℕ) → Pays ds → (i : ℕ) → i ≤ length ds → begun (take i ds) ≤ most_parts → i ≤ longest
short_piece ds pays i l few =
    let h : length (take i ds) ≤ 0 + 5 * begun (take i ds) = subst (Ahead 0) (append-nil ds) (pays 0 [] ahead_none) i in
    omega (arith, length-take-le i ds l)

-- a kind of trees: its texts pay for themselves, and show the parts that well-formed trees have
record Thrifty {A : Type 0} (G : Grammar A) : Type 0 where
  pays : (a : A) → Pays (G.begins a)
  marked : (a : A) → length (G.begins a) ≡ length (G.spells a)
  few : (a : A) → G.formed a → begun (G.begins a) ≤ most_parts

module _ {A : Type 0} (G : Grammar A) (thrifty : Thrifty G) where
  short : (a : A) → G.formed a → length (G.spells a) ≤ longest
  short a w =
      let ds = G.begins a in
      let h = short_piece ds (thrifty.pays a) (length ds) (omega arith) (rw (take_all (length ds) ds (omega arith)) (thrifty.few a w)) in
      omega (arith, thrifty.marked a)

  module _ (bytes : List ℕ) (n : ℕ) (long : longest < n) (has : n ≤ length bytes) where
    size : length (take n bytes) ≡ n
    size = length-take-le n bytes has

    not_whole : (a : A) → G.formed a → take n bytes ≡ G.spells a → ⊥
    not_whole a w e = omega (arith, short a w, ap length e, size)

    within : (i : ℕ) → i < length (take n bytes) → i < length bytes
    within i l = omega (arith, size)

    -- the bytes before a place, and with the one at it
    before : (i : ℕ) → i < length (take n bytes) → take i (take n bytes) ≡ take i bytes
    before i l = take-take i n bytes (omega (arith, size))

    with_it : (i : ℕ) → i < length (take n bytes) → take (i + 1) (take n bytes) ≡ take (i + 1) bytes
    with_it i l = take-take (i + 1) n bytes (omega (arith, size))

    -- what is wrong with the first n bytes is wrong with the bytes
    carried : (k : Misreading) (i : ℕ) → Means G (take n bytes) k i → Means G bytes k i
    carried not_allowed i m =
        record {
          within = within i m.within;
          tree = m.tree;
          before = rw (before i m.within) at m.before;
          fits = rw (before i m.within) at m.fits;
          not_whole = λ a ok e. m.not_whole a ok (e ∙ sym (before i m.within));
          cannot = λ a g. m.cannot a (rw (with_it i m.within) g);
        }
    carried ends_early i m =
        let t = m.tree in
        let g = m.before in
        let all : i ≤ length (G.begins t) = omega (arith, m.at_end, thrifty.marked t, ap length g.goes, length-append (take n bytes) g.rest) in
        absurd (omega (arith, size, m.at_end, short_piece (G.begins t) (thrifty.pays t) (length (take n bytes)) (omega (arith, all, m.at_end)) (m.fits t g).few))
    carried after_end i m =
        record { within = within i m.within; tree = m.tree; formed = m.formed; whole = rw (before i m.within) at m.whole }
    carried too_deep i m =
        record {
          within = within i m.within;
          tree = m.tree;
          with_it = rw (with_it i m.within) at m.with_it;
          fits = rw (before i m.within) at m.fits;
          level = λ a g. m.level a (rw (with_it i m.within) g);
        }
    carried too_many i m =
        record {
          within = within i m.within;
          tree = m.tree;
          with_it = rw (with_it i m.within) at m.with_it;
          fits = rw (before i m.within) at m.fits;
          begins_here = λ a g. m.begins_here a (rw (with_it i m.within) g);
          flat = λ a g. m.flat a (rw (with_it i m.within) g);
          full = λ a g. m.full a (rw (with_it i m.within) g);
        }

formulas_thrifty : Thrifty formulas
formulas_thrifty =
    record { pays = formula_pays 0; marked = λ a. (shown.of_formula a).0; few = λ a w. rw (shown.of_formula a).1 w.few }

terms_thrifty : Thrifty terms
terms_thrifty = record { pays = term_pays 0; marked = λ t. (shown.of_term t).0; few = λ t w. rw (shown.of_term t).1 w.few }

pub told_early : ToldEarly
told_early =
    record {
      short_formula = short formulas formulas_thrifty;
      short_term = short terms terms_thrifty;
      not_read = λ bytes n long has a e.
          let r = formula_read (take n bytes) a e in not_whole formulas formulas_thrifty bytes n long has a r.formed r.spelt;
      told = λ bytes n long has k i e. carried formulas formulas_thrifty bytes n long has k i (formula_means (take n bytes) k i e);
      term_not_read = λ bytes n long has t e.
          let r = term_read (take n bytes) t e in not_whole terms terms_thrifty bytes n long has t r.formed r.spelt;
      term_told = λ bytes n long has k i e. carried terms terms_thrifty bytes n long has k i (term_means (take n bytes) k i e);
    }
