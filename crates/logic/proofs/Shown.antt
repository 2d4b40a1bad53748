-- The parts and levels of a tree are those that its text shows. Assumes nothing.
use Rattle.std.proofs.Common.{◌≡◌, ℕ, suc, ◌+◌, max, List, [], ◌∷◌, ◌++◌, length, refl, ap, ◌∙◌, arith, length-append}
use Rattle.logic.specs.Syntax.{Term, variable, constant, apply1, apply2, Formula, pred0, pred1, pred2, negation, binary, quantified}
use Rattle.logic.specs.Text.{enclosed, paired, term_text, text, term_parts, parts, term_levels, levels}
use Rattle.logic.specs.Depths.{enclosed_depths, paired_depths, term_depths, depths, begun, deepest, Shown}
use Rattle.logic.proofs.Serves.{begun_append, deepest_append}

-- the depths ds go with the bytes bs: n parts begin, down to the level l
record Shows (ds bs : List ℕ) (n l : ℕ) : Type 0 where
  marked : length ds ≡ length bs
  count : begun ds ≡ n
  depth : deepest ds ≡ l

shows_none : Shows [] [] 0 0
shows_none = record { marked = refl; count = refl; depth = refl }

-- a byte at which no part begins
shows_byte : {ds bs : List ℕ} {n l : ℕ} (b : ℕ) → Shows ds bs n l → Shows (0 ∷ ds) (b ∷ bs) n l
shows_byte b s = record { marked = ap suc s.marked; count = s.count; depth = omega (arith, s.depth) }

-- a byte at which a part begins at the level l + 1, with the sum m of the parts and the deepest level j
shows_part : {ds bs : List ℕ} {n k : ℕ} (l b m j : ℕ) → Shows ds bs n k → m ≡ 1 + n → j ≡ max (suc l) k → Shows (suc l ∷ ds) (b ∷ bs) m j
shows_part l b m j s p q = record { marked = ap suc s.marked; count = omega (arith, s.count); depth = omega (arith, s.depth) }

shows_then : {ds bs es cs : List ℕ} {n l m k : ℕ} → Shows ds bs n l → Shows es cs m k → Shows (ds ++ es) (bs ++ cs) (n + m) (max l k)
shows_then {ds} {bs} {es} {cs} s t =
    record {
      marked = omega (arith, length-append ds es, length-append bs cs, s.marked, t.marked);
      count = omega (arith, begun_append ds es, s.count, t.count);
      depth = omega (arith, deepest_append ds es, s.depth, t.depth);
    }

shows_enclosed : {ds bs : List ℕ} {n l : ℕ} → Shows ds bs n l → Shows (enclosed_depths ds) (enclosed bs) (n + 0) (max l 0)
shows_enclosed s = shows_byte _ (shows_then s (shows_byte _ shows_none))

shows_paired : {ds bs es cs : List ℕ} {n l m k : ℕ} → Shows ds bs n l → Shows es cs m k → Shows (paired_depths ds es) (paired bs cs) (n + (m + 0)) (max l (max k 0))
shows_paired s t = shows_byte _ (shows_then s (shows_byte _ (shows_then t (shows_byte _ shows_none))))

term_shows : (l : ℕ) (t : Term) → Shows (term_depths (suc l) t) (term_text t) (term_parts t) (l + term_levels t)
term_shows l (variable x) = shows_part l _ _ _ (shows_byte _ shows_none) refl (omega arith)
term_shows l (constant c) = shows_part l _ _ _ (shows_byte _ shows_none) refl (omega arith)
term_shows l (apply1 f s) = shows_part l _ _ _ (shows_byte _ (shows_enclosed (term_shows (suc l) s))) (omega arith) (omega arith)
term_shows l (apply2 f s t) =
    shows_part l _ _ _ (shows_byte _ (shows_paired (term_shows (suc l) s) (term_shows (suc l) t))) (omega arith) (omega arith)

shows : (l : ℕ) (a : Formula) → Shows (depths (suc l) a) (text a) (parts a) (l + levels a)
shows l (pred0 p) = shows_part l _ _ _ (shows_byte _ shows_none) refl (omega arith)
shows l (pred1 p s) = shows_part l _ _ _ (shows_byte _ (shows_enclosed (term_shows (suc l) s))) (omega arith) (omega arith)
shows l (pred2 p s t) =
    shows_part l _ _ _ (shows_byte _ (shows_paired (term_shows (suc l) s) (term_shows (suc l) t))) (omega arith) (omega arith)
shows l (negation a) = shows_part l _ _ _ (shows (suc l) a) refl (omega arith)
shows l (binary k a b) =
    shows_part l _ _ _ (shows_then (shows (suc l) a) (shows_byte _ (shows_then (shows (suc l) b) (shows_byte _ shows_none)))) (omega arith) (omega arith)
shows l (quantified q x a) = shows_part l _ _ _ (shows_byte _ (shows_byte _ (shows (suc l) a))) refl (omega arith)

pub shown : Shown
shown =
    record {
      of_formula = λ a. let s = shows 0 a in (s.marked, s.count, s.depth ∙ omega arith);
      of_term = λ t. let s = term_shows 0 t in (s.marked, s.count, s.depth ∙ omega arith);
    }
