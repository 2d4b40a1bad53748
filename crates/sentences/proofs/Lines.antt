-- What is wrong with the bytes that are held of a line is wrong with the line. Assumes nothing.
use Rattle.std.proofs.Common.{◌≡◌, ℕ, ◌<◌, ◌≤◌, List, length, take, ap, ◌∙◌, arith, length-take}
use Rattle.logic.specs.Syntax as pure
use Rattle.logic.specs.Text.{Reads}
use Rattle.logic.specs.Reading.{Misreading, faulty, formula_of}
use Rattle.logic.specs.Misreadings.{Means, formulas}
use Rattle.logic.specs.Long.{longest}
use Rattle.logic.proofs.Long.{told_early}
use Rattle.reader.specs.Answers.{misreading}
use Rattle.reader.specs.Told.{Tells, Refused, Meant}
use Rattle.fault.specs.declared.fault.Source.{Source}
use Rattle.fault.specs.declared.fault.Fault.{Fault}
use Rattle.fault.specs.declared.fault.Fault.TheVariants.{Memory}
use Rattle.fault.proofs.Mapped.{mapped}
use Rattle.sentences.specs.Judged.{Faulty}

held_fits : (bytes line : List ℕ) → take (length bytes) line ≡ bytes → length bytes ≤ length line
held_fits bytes line e = omega (arith, length-take (length bytes) line, ap length e)

line_none : (bytes line : List ℕ) → longest < length bytes → take (length bytes) line ≡ bytes → (a : pure.Formula) → Reads line a → ⊥
line_none bytes line long e a r = omega (arith, held_fits bytes line e, ap length r.spelt, told_early.short_formula a r.formed)

line_means : (bytes : List ℕ) (k : Misreading) (i : ℕ) → formula_of bytes ≡ faulty k i → (line : List ℕ) → longest < length bytes → take (length bytes) line ≡ bytes → Means formulas line k i
line_means bytes k i t line long e = told_early.told line (length bytes) long (held_fits bytes line e) k i (ap (λ (z : List ℕ). formula_of z) e ∙ t)

line_meant : (bytes : List ℕ) (e : Fault) → Tells Source.Formula (formula_of bytes) e → (line : List ℕ) → longest < length bytes → take (length bytes) line ≡ bytes → Meant formulas line e
line_meant bytes e t line long same = mapped _ _ (λ m s i told. line_means bytes (misreading m) i told.1 line long same) e t

pub judged : (bytes : List ℕ) (e : Fault) → (e ≡ Memory → ⊥) → Tells Source.Formula (formula_of bytes) e → Refused ((a : pure.Formula) → Reads bytes a → ⊥) e → Meant formulas bytes e → Faulty bytes e
judged bytes e n t r m = record { told = t; no_want = n; none = r n; means = m; line_none = line_none bytes; line_means = line_meant bytes e t }
