-- What reading is held to. Assumes nothing.
use Rattle.std.specs.Prelude.{◌≡◌, ℕ, List}
use Rattle.logic.specs.Syntax.{Term, Formula}
use Rattle.logic.specs.Text.{Reads, ReadsTerm}
use Rattle.logic.specs.Reading.{Misreading, reads, faulty, formula_of, term_of}
use Rattle.logic.specs.Misreadings.{Means, formulas, terms}

-- a tree is read exactly where the bytes are its text, within the limits
pub record ReadsExactly : Type 0 where
  pub reads_formula : (bytes : List ℕ) (a : Formula) → Reads bytes a → formula_of bytes ≡ reads a
  pub formula_read : (bytes : List ℕ) (a : Formula) → formula_of bytes ≡ reads a → Reads bytes a
  pub reads_term : (bytes : List ℕ) (t : Term) → ReadsTerm bytes t → term_of bytes ≡ reads t
  pub term_read : (bytes : List ℕ) (t : Term) → term_of bytes ≡ reads t → ReadsTerm bytes t

-- what is told to be wrong is wrong
pub record FaultsMean : Type 0 where
  pub of_formula : (bytes : List ℕ) (k : Misreading) (i : ℕ) → formula_of bytes ≡ faulty k i → Means formulas bytes k i
  pub of_term : (bytes : List ℕ) (k : Misreading) (i : ℕ) → term_of bytes ≡ faulty k i → Means terms bytes k i
