-- A text within the limits is short, so the first bytes of a long text tell what is wrong with it. Assumes nothing.
use Rattle.std.specs.Prelude.{◌≡◌, ℕ, ◌<◌, ◌≤◌, List, length, take, ◌≢◌}
use Rattle.logic.specs.Syntax.{Term, Formula}
use Rattle.logic.specs.Text.{text, term_text, WellFormed, TermWellFormed}
use Rattle.logic.specs.Reading.{Misreading, reads, faulty, formula_of, term_of}
use Rattle.logic.specs.Misreadings.{formulas, terms, Means}

-- five bytes for each of the most parts
abbrev pub longest : ℕ
longest = 1000

pub record ToldEarly : Type 0 where
  pub short_formula : (a : Formula) → WellFormed a → length (text a) ≤ longest
  pub short_term : (t : Term) → TermWellFormed t → length (term_text t) ≤ longest
  -- the first n bytes of a text of at least n are not read, and what is wrong with them is wrong with the text
  pub not_read : (bytes : List ℕ) (n : ℕ) → longest < n → n ≤ length bytes → (a : Formula) → formula_of (take n bytes) ≢ reads a
  pub told : (bytes : List ℕ) (n : ℕ) → longest < n → n ≤ length bytes → (k : Misreading) (i : ℕ) → formula_of (take n bytes) ≡ faulty k i → Means formulas bytes k i
  pub term_not_read : (bytes : List ℕ) (n : ℕ) → longest < n → n ≤ length bytes → (t : Term) → term_of (take n bytes) ≢ reads t
  pub term_told : (bytes : List ℕ) (n : ℕ) → longest < n → n ≤ length bytes → (k : Misreading) (i : ℕ) → term_of (take n bytes) ≡ faulty k i → Means terms bytes k i
