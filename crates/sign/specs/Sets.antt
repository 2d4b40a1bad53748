-- What a set of variables has. Assumes nothing.
use Rattle.std.specs.Prelude.{◌≡◌, ℕ, ◌<◌, Bool, false, slice_index_or}
use Rattle.logic.specs.Text.{names}
use Rattle.sign.specs.declared.variables.Variables.{Variables}

-- whether the variable is in the set
abbrev pub is_in : Variables → ℕ → Bool
is_in set x = slice_index_or set.holds x false

-- of the variables of the language, the set has those of which the test says yes
abbrev pub IsSetOf : (ℕ → Bool) → Variables → Type 0
IsSetOf test set = (x : ℕ) → x < names → is_in set x ≡ test x
