-- Where the parts of a text begin: for each byte the level of the part that begins there, or 0 where none does. Assumes nothing.
use Rattle.std.specs.Prelude.{◌≡◌, ℕ, zero, suc, max, List, [], ◌∷◌, ◌++◌, length}
use Rattle.logic.specs.Syntax.{Term, variable, constant, apply1, apply2, Formula, pred0, pred1, pred2, negation, binary, quantified}
use Rattle.logic.specs.Text.{text, parts, levels, term_text, term_parts, term_levels}

-- one term, and two, in brackets
abbrev pub enclosed_depths : List ℕ → List ℕ
enclosed_depths s = 0 ∷ (s ++ (0 ∷ []))

abbrev pub paired_depths : List ℕ → List ℕ → List ℕ
paired_depths s t = 0 ∷ (s ++ (0 ∷ (t ++ (0 ∷ []))))

-- a term at level l
abbrev pub term_depths : ℕ → Term → List ℕ
term_depths l (variable x) = l ∷ 0 ∷ []
term_depths l (constant c) = l ∷ 0 ∷ []
term_depths l (apply1 f s) = l ∷ 0 ∷ enclosed_depths (term_depths (suc l) s)
term_depths l (apply2 f s t) = l ∷ 0 ∷ paired_depths (term_depths (suc l) s) (term_depths (suc l) t)

-- a formula at level l
abbrev pub depths : ℕ → Formula → List ℕ
depths l (pred0 p) = l ∷ 0 ∷ []
depths l (pred1 p s) = l ∷ 0 ∷ enclosed_depths (term_depths (suc l) s)
depths l (pred2 p s t) = l ∷ 0 ∷ paired_depths (term_depths (suc l) s) (term_depths (suc l) t)
depths l (negation a) = l ∷ depths (suc l) a
depths l (binary k a b) = l ∷ (depths (suc l) a ++ (0 ∷ (depths (suc l) b ++ (0 ∷ []))))
depths l (quantified q x a) = l ∷ 0 ∷ 0 ∷ depths (suc l) a

-- how many parts begin
abbrev pub begun : List ℕ → ℕ
begun [] = 0
begun (zero ∷ ds) = begun ds
begun (suc d ∷ ds) = suc (begun ds)

-- the deepest level at which one begins
abbrev pub deepest : List ℕ → ℕ
deepest [] = 0
deepest (d ∷ ds) = max d (deepest ds)

-- the parts and levels of a tree are those that its text shows
pub record Shown : Type 0 where
  pub of_formula : (a : Formula) → (length (depths 1 a) ≡ length (text a)) × (begun (depths 1 a) ≡ parts a) × (deepest (depths 1 a) ≡ levels a)
  pub of_term : (t : Term) → (length (term_depths 1 t) ≡ length (term_text t)) × (begun (term_depths 1 t) ≡ term_parts t) × (deepest (term_depths 1 t) ≡ term_levels t)
