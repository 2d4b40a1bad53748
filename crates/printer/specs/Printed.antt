-- What is owed for a text that is to be put into a buffer. Assumes nothing.
use Rattle.std.specs.Prelude.{◌≡◌, ℕ, ◌<◌, ◌≤◌, List, ◌++◌, length, drop, Ok, Err, Result}
use Rattle.logic.specs.Syntax.{Term, Formula}
use Rattle.logic.specs.Text.{parts, levels, term_parts, term_levels, most_parts, most_levels, Reads, ReadsTerm}
use Rattle.fault.specs.declared.fault.Fault.{Fault}
use Rattle.fault.specs.declared.fault.Fault.TheVariants.{BufferShort}

-- the text of n bytes stands at the front, and what was behind its end stands there yet
pub record Put (text before after : List ℕ) (n : ℕ) : Type 0 where
  pub count : n ≡ length text
  pub fits : n ≤ length before
  pub bytes : after ≡ text ++ drop n before

-- the text does not fit, and nothing was written
pub record Refused (text before after : List ℕ) (e : Fault) : Type 0 where
  pub fault : e ≡ BufferShort
  pub short : length before < length text
  pub same : after ≡ before

abbrev pub Printed : List ℕ → List ℕ → List ℕ → Result ℕ Fault → Type 0
Printed text before after (Ok n) = Put text before after n
Printed text before after (Err e) = Refused text before after e

-- a tree within the sizes reads back from what was printed, and whatever the tree was read from is what was printed
pub record Back (Small : Type 0) (Is : List ℕ → Type 0) (printed : List ℕ) : Type 0 where
  pub reads : Small → Is printed
  pub same : (bytes : List ℕ) → Is bytes → bytes ≡ printed

abbrev pub FormulaBack : Formula → List ℕ → Type 0
FormulaBack a printed = Back ((parts a ≤ most_parts) × (levels a ≤ most_levels)) (λ bytes. Reads bytes a) printed

abbrev pub TermBack : Term → List ℕ → Type 0
TermBack t printed = Back ((term_parts t ≤ most_parts) × (term_levels t ≤ most_levels)) (λ bytes. ReadsTerm bytes t) printed
