-- A name is told by its digit. Assumes nothing.
use Rattle.std.proofs.Common.{◌≡◌, ℕ, ◌<◌, ap, subst}
use Rattle.std.proofs.Math.Bridge.{le_prop}
use Rattle.logic.specs.Text.{names}
use Rattle.sign.specs.declared.name.Name.{Name}

abbrev name : (x : ℕ) → x < names → Name
name x small = record { digit = x; small = small }

pub name_path : (a b : Name) → a.digit ≡ b.digit → a ≡ b
name_path a b e =
    let P : ℕ → Type 0 = λ x. (k : x < names) → a ≡ name x k in
    subst P e (λ k. ap (name a.digit) (le_prop a.small k)) b.small
