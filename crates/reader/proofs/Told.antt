-- What is told of a text is exact, and means what it should. Assumes nothing.
use Rattle.std.proofs.Common.{◌≡◌, ℕ, List, Ok, Err, Result, refl, sym, ◌∙◌, arith, MatchResult}
use Rattle.logic.specs.Text.{Reads, ReadsTerm}
use Rattle.logic.specs.Reading.{Misreading, Verdict, reads, faulty, formula_of, term_of}
use Rattle.logic.specs.Misreadings.{Grammar, Means, formulas, terms}
use Rattle.logic.proofs.Exact.{formula_reads, formula_read, term_reads, term_read}
use Rattle.logic.proofs.Meanings.{formula_means, term_means}
use Rattle.formula.specs.View.{term, formula}
use Rattle.reader.specs.Told.{Tells, Refused, Meant, Read, FormulaRead, TermRead}
use Rattle.formula.specs.declared.tree.Term.{Term}
use Rattle.formula.specs.declared.tree.Formula.{Formula}
use Rattle.fault.proofs.Mapped.{mapped}
use Rattle.reader.specs.Answers.{misreading}
use Rattle.fault.specs.declared.fault.Source.{Source}
use Rattle.fault.specs.declared.fault.Fault.{Fault}
use Rattle.fault.specs.declared.fault.Fault.TheVariants.{Reading, SizeOutOfRange, WrongCount, ElementOutOfRange, NotATruthValue, BufferShort, Memory}

module _ {X A : Type 0} (G : Grammar A) (Is : A → Type 0) (verdict : Verdict A) (s : Source) (view : X → A) (bytes : List ℕ)
    (is_read : (a : A) → Is a → verdict ≡ reads a) (read_is : (a : A) → verdict ≡ reads a → Is a)
    (means : (k : Misreading) (i : ℕ) → verdict ≡ faulty k i → Means G bytes k i) where
  not_both : (k : Misreading) (i : ℕ) → verdict ≡ faulty k i → (a : A) → Is a → ⊥
  not_both k i e a h = let both : reads a ≡ faulty k i = sym (is_read a h) ∙ e in let no : ◌≡◌ {A = ℕ} 0 1 = cc in omega arith

  refused : (e : Fault) → Tells s verdict e → Refused ((a : A) → Is a → ⊥) e
  refused (Reading m r i) t some = not_both _ i t.1
  refused Memory t some = absurd (some refl)
  refused SizeOutOfRange t some = absurd t
  refused WrongCount t some = absurd t
  refused ElementOutOfRange t some = absurd t
  refused NotATruthValue t some = absurd t
  refused BufferShort t some = absurd t

  meant : (e : Fault) → Tells s verdict e → Meant G bytes e
  meant = mapped _ _ (λ m r i t. means (misreading m) i t.1)

  read_told : (r : Result X Fault) → MatchResult r (λ x. verdict ≡ reads (view x)) (Tells s verdict) → Read G Is verdict s view bytes r
  read_told (Ok x) t = record { told = t; exact = read_is (view x) t; means = tt }
  read_told (Err e) t = record { told = t; exact = refused e t; means = meant e t }

pub formula_told : (bytes : List ℕ) (r : Result Formula Fault) → MatchResult r (λ x. formula_of bytes ≡ reads (formula x)) (Tells Source.Formula (formula_of bytes)) → FormulaRead bytes r
formula_told bytes r t = read_told formulas (Reads bytes) (formula_of bytes) Source.Formula formula bytes (formula_reads bytes) (formula_read bytes) (formula_means bytes) r t

pub term_told : (bytes : List ℕ) (r : Result Term Fault) → MatchResult r (λ x. term_of bytes ≡ reads (term x)) (Tells Source.Term (term_of bytes)) → TermRead bytes r
term_told bytes r t = read_told terms (ReadsTerm bytes) (term_of bytes) Source.Term term bytes (term_reads bytes) (term_read bytes) (term_means bytes) r t
