-- What the reader owes for each answer of the theory. Assumes nothing.
use Rattle.std.specs.Prelude.{◌≡◌, ℕ, Ok, Err, Result}
use Rattle.logic.specs.Reading as pure
use Rattle.logic.specs.Reading.{not_allowed, ends_early, after_end, too_deep, too_many, Out, got, bad}
use Rattle.fault.specs.Faults.{OfReading}
use Rattle.fault.specs.declared.fault.Source.{Source}
use Rattle.fault.specs.declared.fault.Misreading.{Misreading}
use Rattle.fault.specs.declared.fault.Misreading.TheVariants.{NotAllowed, EndsEarly, AfterEnd, TooDeep, TooMany}
use Rattle.fault.specs.declared.fault.Fault.{Fault}

abbrev pub same : {A : Type 0} → A → A
same x = x

-- the misreading that the program's enum stands for
abbrev pub misreading : Misreading → pure.Misreading
misreading NotAllowed = not_allowed
misreading EndsEarly = ends_early
misreading AfterEnd = after_end
misreading TooDeep = too_deep
misreading TooMany = too_many

-- the fault is this misreading of that text, at this place; or memory ran out
abbrev pub Failed : {A : Type 0} → Source → Fault → Out A → Type 0
Failed s e o = OfReading (λ m r i. (r ≡ s) × (o ≡ bad (misreading m) i)) e

-- the result, with the reader's place and parts after it, is the answer o; or memory ran out
abbrev pub Answers : {X A : Type 0} → Source → (X → A) → Result X Fault → ℕ → ℕ → Out A → Type 0
Answers s v (Ok x) at n o = o ≡ got (v x) at n
Answers s v (Err e) at n o = Failed s e o
