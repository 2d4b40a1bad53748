-- What is said of faults of reading follows from what else is said of them. Assumes nothing.
use Rattle.std.proofs.Common.{ℕ}
use Rattle.fault.specs.Faults.{OfReading}
use Rattle.fault.specs.declared.fault.Source.{Source}
use Rattle.fault.specs.declared.fault.Misreading.{Misreading}
use Rattle.fault.specs.declared.fault.Fault.{Fault}
use Rattle.fault.specs.declared.fault.Fault.TheVariants.{Reading, SizeOutOfRange, WrongCount, ElementOutOfRange, NotATruthValue, BufferShort, Memory}

pub mapped : (P Q : Misreading → Source → ℕ → Type 0) → ((m : Misreading) (s : Source) (i : ℕ) → P m s i → Q m s i) → (e : Fault) → OfReading P e → OfReading Q e
mapped P Q f (Reading m s i) p = f m s i p
mapped P Q f Memory p = p
mapped P Q f SizeOutOfRange p = p
mapped P Q f WrongCount p = p
mapped P Q f ElementOutOfRange p = p
mapped P Q f NotATruthValue p = p
mapped P Q f BufferShort p = p
