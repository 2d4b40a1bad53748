-- How a set of variables is written. Assumes nothing.
use Rattle.std.specs.Prelude.{ℕ, zero, suc, Bool, true, false, if◌then◌else◌, List, [], ◌∷◌, ◌++◌, codes, slice_index_or}
use Rattle.logic.specs.Signs.{'x', digit}
use Rattle.logic.specs.Text.{names}

-- a variable, behind a blank where it is not the first
abbrev pub piece : Bool → ℕ → List ℕ
piece true x = 'x' ∷ digit x ∷ []
piece false x = 32 ∷ 'x' ∷ digit x ∷ []

-- a variable behind those that were written before it
abbrev pub behind : List ℕ → ℕ → List ℕ
behind [] x = piece true x
behind (b ∷ bs) x = (b ∷ bs) ++ piece false x

-- the variables below n of a set, in rising order
abbrev pub listed_below : List Bool → ℕ → List ℕ
listed_below holds zero = []
listed_below holds (suc n) = if slice_index_or holds n false then behind (listed_below holds n) n else listed_below holds n

-- a word for none
abbrev pub or_none : List ℕ → List ℕ
or_none [] = codes "none"
or_none (b ∷ bs) = b ∷ bs

-- the variables of a set, or that there are none
abbrev pub variables_text : List Bool → List ℕ
variables_text holds = or_none (listed_below holds names)
