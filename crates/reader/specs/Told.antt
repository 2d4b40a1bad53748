-- What reading a whole text owes. Assumes nothing.
use Rattle.std.specs.Prelude.{◌≡◌, ℕ, List, IfErr, Result, MatchResult}
use Rattle.logic.specs.Text.{Reads, ReadsTerm}
use Rattle.logic.specs.Reading.{Verdict, reads, faulty, formula_of, term_of}
use Rattle.logic.specs.Misreadings.{Grammar, Means, formulas, terms}
use Rattle.formula.specs.View.{term, formula}
use Rattle.formula.specs.declared.tree.Term.{Term}
use Rattle.formula.specs.declared.tree.Formula.{Formula}
use Rattle.fault.specs.Faults.{OfReading}
use Rattle.fault.specs.declared.fault.Source.{Source}
use Rattle.fault.specs.declared.fault.Fault.{Fault}
use Rattle.fault.specs.declared.fault.Fault.TheVariants.{Memory}
use Rattle.reader.specs.Answers.{misreading}

-- the fault is the one that the theory tells of the text; or memory ran out
abbrev pub Tells : {A : Type 0} → Source → Verdict A → Fault → Type 0
Tells s v = OfReading (λ m r i. (r ≡ s) × (v ≡ faulty (misreading m) i))

-- the fault is no want of memory, so P
abbrev pub Refused : Type 0 → Fault → Type 0
Refused P e = (e ≡ Memory → ⊥) → P

-- what a fault of reading says of the bytes
abbrev pub Meant : {A : Type 0} → Grammar A → List ℕ → Fault → Type 0
Meant G bytes = OfReading (λ m s i. Means G bytes (misreading m) i)

-- Of trees of some kind: Is says which tree the bytes are the text of, within the limits; the verdict is what the theory reads.
pub record Read {X A : Type 0} (G : Grammar A) (Is : A → Type 0) (verdict : Verdict A) (s : Source) (view : X → A) (bytes : List ℕ) (r : Result X Fault) : Type 0 where
  -- the tree or the fault, its place and its text are those of the theory; or memory ran out
  pub told : MatchResult r (λ x. verdict ≡ reads (view x)) (Tells s verdict)
  -- a tree is answered exactly where the bytes are its text, within the limits; or memory ran out
  pub exact : MatchResult r (λ x. Is (view x)) (Refused ((a : A) → Is a → ⊥))
  -- the fault means what it should
  pub means : IfErr r (Meant G bytes)

abbrev pub FormulaRead : List ℕ → Result Formula Fault → Type 0
FormulaRead bytes r = Read formulas (Reads bytes) (formula_of bytes) Source.Formula formula bytes r

abbrev pub TermRead : List ℕ → Result Term Fault → Type 0
TermRead bytes r = Read terms (ReadsTerm bytes) (term_of bytes) Source.Term term bytes r
