-- What counting a byte does. Assumes nothing.
use Rattle.std.specs.Prelude.{ℕ, ◌+◌, ◌-◌, ◌≤◌}
use Rattle.std.specs.Option.{SomeIff}
use Rattle.formula.specs.declared.count.Count.{Count}

-- n bytes came into the room
abbrev pub HasCounted : ℕ → Count → ℕ → Type 0
HasCounted room s n = SomeIff s.left (n ≤ room) (room - n)

-- one byte more came
abbrev pub CountsOne : Count → ℕ → Count → Type 0
CountsOne s byte t = (room n : ℕ) → HasCounted room s n → HasCounted room t (n + 1)
