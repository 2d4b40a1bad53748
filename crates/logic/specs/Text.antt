-- The text of a term or a formula, its parts, its levels, and the sizes it has to keep to. Assumes nothing.
use Rattle.std.specs.Prelude.{◌≡◌, ℕ, ◌+◌, ◌<◌, ◌≤◌, max, List, [], ◌∷◌, ◌++◌}
use Rattle.logic.specs.Syntax.{Term, variable, constant, apply1, apply2, Formula, pred0, pred1, pred2, negation, binary, quantified}
use Rattle.logic.specs.Signs.{'x', 'c', 'f', 'g', 'p', 'q', 'r', '-', 'open', 'close', 'comma', digit, joint, letter}

-- the text of one term, and of two, in brackets
abbrev pub enclosed : List ℕ → List ℕ
enclosed s = 'open' ∷ (s ++ ('close' ∷ []))

abbrev pub paired : List ℕ → List ℕ → List ℕ
paired s t = 'open' ∷ (s ++ ('comma' ∷ (t ++ ('close' ∷ []))))

abbrev pub term_text : Term → List ℕ
term_text (variable x) = 'x' ∷ digit x ∷ []
term_text (constant c) = 'c' ∷ digit c ∷ []
term_text (apply1 f s) = 'f' ∷ digit f ∷ enclosed (term_text s)
term_text (apply2 f s t) = 'g' ∷ digit f ∷ paired (term_text s) (term_text t)

abbrev pub text : Formula → List ℕ
text (pred0 p) = 'p' ∷ digit p ∷ []
text (pred1 p s) = 'q' ∷ digit p ∷ enclosed (term_text s)
text (pred2 p s t) = 'r' ∷ digit p ∷ paired (term_text s) (term_text t)
text (negation a) = '-' ∷ text a
text (binary k a b) = 'open' ∷ (text a ++ (joint k ∷ (text b ++ ('close' ∷ []))))
text (quantified q x a) = letter q ∷ 'x' ∷ digit x ∷ text a

-- A part is one sign: a name, a connective with its brackets, or a quantifier with its variable.
abbrev pub term_parts : Term → ℕ
term_parts (variable x) = 1
term_parts (constant c) = 1
term_parts (apply1 f s) = 1 + term_parts s
term_parts (apply2 f s t) = 1 + term_parts s + term_parts t

abbrev pub parts : Formula → ℕ
parts (pred0 p) = 1
parts (pred1 p s) = 1 + term_parts s
parts (pred2 p s t) = 1 + term_parts s + term_parts t
parts (negation a) = 1 + parts a
parts (binary k a b) = 1 + parts a + parts b
parts (quantified q x a) = 1 + parts a

-- The whole stands at level 1, and what a part directly takes one level further: this is the deepest level.
abbrev pub term_levels : Term → ℕ
term_levels (variable x) = 1
term_levels (constant c) = 1
term_levels (apply1 f s) = 1 + term_levels s
term_levels (apply2 f s t) = 1 + max (term_levels s) (term_levels t)

abbrev pub levels : Formula → ℕ
levels (pred0 p) = 1
levels (pred1 p s) = 1 + term_levels s
levels (pred2 p s t) = 1 + max (term_levels s) (term_levels t)
levels (negation a) = 1 + levels a
levels (binary k a b) = 1 + max (levels a) (levels b)
levels (quantified q x a) = 1 + levels a

-- how many names each letter has
abbrev pub names : ℕ
names = 8

-- the most parts of a term or formula
abbrev pub most_parts : ℕ
most_parts = 200

-- the most levels of a term or formula
abbrev pub most_levels : ℕ
most_levels = 24

-- every name is one of the language: the term is of the grammar, whatever its size
abbrev pub TermNamed : Term → Type 0
TermNamed (variable x) = x < names
TermNamed (constant c) = c < names
TermNamed (apply1 f s) = (f < names) × TermNamed s
TermNamed (apply2 f s t) = (f < names) × TermNamed s × TermNamed t

-- the formula is of the grammar, whatever its size
abbrev pub Named : Formula → Type 0
Named (pred0 p) = p < names
Named (pred1 p s) = (p < names) × TermNamed s
Named (pred2 p s t) = (p < names) × TermNamed s × TermNamed t
Named (negation a) = Named a
Named (binary k a b) = Named a × Named b
Named (quantified q x a) = (x < names) × Named a

-- the names and the sizes are within their limits
pub record TermWellFormed (t : Term) : Type 0 where
  pub named : TermNamed t
  pub few : term_parts t ≤ most_parts
  pub flat : term_levels t ≤ most_levels

pub record WellFormed (a : Formula) : Type 0 where
  pub named : Named a
  pub few : parts a ≤ most_parts
  pub flat : levels a ≤ most_levels

-- the bytes are the text of the term, and its names and sizes are within their limits
pub record ReadsTerm (bytes : List ℕ) (t : Term) : Type 0 where
  pub spelt : bytes ≡ term_text t
  pub formed : TermWellFormed t

-- the bytes are the text of the formula, and its names and sizes are within their limits
pub record Reads (bytes : List ℕ) (a : Formula) : Type 0 where
  pub spelt : bytes ≡ text a
  pub formed : WellFormed a
