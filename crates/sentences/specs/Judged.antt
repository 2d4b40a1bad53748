-- What a judgement says of the bytes of a sentence. Assumes nothing.
use Rattle.std.specs.Prelude.{◌≡◌, ℕ, ◌<◌, List, length, take, Result, MatchResult}
use Rattle.logic.specs.Syntax as pure
use Rattle.logic.specs.Syntax.{free}
use Rattle.logic.specs.Text.{parts, levels, Reads}
use Rattle.logic.specs.Misreadings.{formulas}
use Rattle.logic.specs.Long.{longest}
use Rattle.logic.specs.Reading.{formula_of}
use Rattle.sign.specs.Sets.{IsSetOf}
use Rattle.reader.specs.Told.{Tells, Meant}
use Rattle.fault.specs.declared.fault.Source.{Source}
use Rattle.fault.specs.declared.fault.Fault.{Fault}
use Rattle.fault.specs.declared.fault.Fault.TheVariants.{Memory}
use Rattle.sentences.specs.declared.judgement.Measures.{Measures}

-- the bytes are the text of a formula with these measures
pub record Measured (bytes : List ℕ) (m : Measures) : Type 0 where
  pub sense : pure.Formula
  pub read : Reads bytes sense
  pub of_parts : m.parts ≡ parts sense
  pub of_levels : m.levels ≡ levels sense
  pub of_free : IsSetOf (λ x. free x sense) m.free

-- the bytes are the text of no formula within the limits, and the fault is the one that the theory tells, and means what it
-- should; where the bytes are more than the longest text has, so it is with every line that begins with them
pub record Faulty (bytes : List ℕ) (e : Fault) : Type 0 where
  pub told : Tells Source.Formula (formula_of bytes) e
  pub no_want : e ≡ Memory → ⊥
  pub none : (a : pure.Formula) → Reads bytes a → ⊥
  pub means : Meant formulas bytes e
  pub line_none : (line : List ℕ) → longest < length bytes → take (length bytes) line ≡ bytes → (a : pure.Formula) → Reads line a → ⊥
  pub line_means : (line : List ℕ) → longest < length bytes → take (length bytes) line ≡ bytes → Meant formulas line e

abbrev pub Judged : List ℕ → Result Measures Fault → Type 0
Judged bytes j = MatchResult j (Measured bytes) (Faulty bytes)
