-- The bytes of a sentence that are held. Assumes nothing.
use Rattle.std.specs.Prelude.{◌≡◌, ℕ, if◌then◌else◌, List, [], ◌∷◌, ◌++◌, length, Result, MatchResult, nat_lt}
use Rattle.std.specs.declared.alloc.AllocError.{AllocError}

abbrev pub held : ℕ
held = 32768

-- one byte more, as far as there is room; or memory ran out and nothing changed
abbrev pub Holds : List ℕ → ℕ → Result (Unit {0}) AllocError → List ℕ → Type 0
Holds before byte r after = MatchResult r (λ _. after ≡ (if nat_lt (length before) held then before ++ (byte ∷ []) else before)) (λ _. after ≡ before)
