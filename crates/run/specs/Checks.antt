-- What is wrong with what a run is made from: the first test that fails decides. Assumes nothing.
use Rattle.std.specs.Prelude.{◌≡◌, ℕ, Bool, true, false, refl, cond, ◌&&◌, List, [], ◌∷◌, Some, None, Option, nat_le}
use Rattle.std.proofs.lemmas.Option.{none-some}
use Rattle.std.proofs.Common.{sym}
use Rattle.fault.specs.declared.fault.Fault.{Fault}

-- the fault of the first test that fails
abbrev pub first_of : List (Bool × Fault) → Option Fault
first_of [] = None
first_of (t ∷ ts) = cond t.0 (first_of ts) (Some t.1)

-- where no test fails, the first one passed and no other fails
pub passed : (t : Bool) (f : Fault) (rest : Option Fault) → cond t rest (Some f) ≡ None → (t ≡ true) × (rest ≡ None)
passed true f rest h = (refl, h)
passed false f rest h = absurd (none-some f (sym h))

-- a size between 1 and the most
abbrev pub is_sized : ℕ → ℕ → Bool
is_sized most n = nat_le 1 n && nat_le n most
