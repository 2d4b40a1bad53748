-- What each step of the reader owes. Assumes nothing.
use Rattle.std.specs.Prelude.{◌≡◌, ℕ, ◌<◌, ◌≤◌, List, length, Ok, Err, Result, MatchResult}
use Rattle.logic.specs.Reading.{Out}
use Rattle.reader.specs.Answers.{Answers}
use Rattle.fault.specs.declared.fault.Misreading.TheVariants.{AfterEnd}
use Rattle.fault.specs.declared.fault.Fault.{Fault}
use Rattle.fault.specs.declared.fault.Fault.TheVariants.{Reading}
use Rattle.reader.specs.declared.Reader.{Reader}

-- the reader goes on from `before` to `after` and answers r, as the theory's reader f does
abbrev pub Step : {X A : Type 0} → (X → A) → (List ℕ → ℕ → ℕ → Out A) → Reader → Reader → Result X Fault → Type 0
Step v f before after r =
    (after.bytes ≡ before.bytes) × (after.source ≡ before.source)
    × Answers before.source v r after.at after.parts (f before.bytes.now before.at before.parts)

-- what was taken is answered: a tree only where nothing stands behind it
abbrev pub Alone : {X : Type 0} → Result X Fault → Reader → Result X Fault → Type 0
Alone (Ok x) after r = MatchResult r (λ y. (y ≡ x) × (length after.bytes.now ≤ after.at)) (λ e. (after.at < length after.bytes.now) × (e ≡ Reading AfterEnd after.source after.at))
Alone (Err f) after r = r ≡ Err f
