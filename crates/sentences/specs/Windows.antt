-- The bytes of a sentence that are shown around a place. Assumes nothing.
use Rattle.std.specs.Prelude.{◌≡◌, ℕ, ◌+◌, ◌-◌, ◌≤◌, min, if◌then◌else◌, ◌&&◌, nat_le}

-- half of the width before the place, but no further than leaves a whole width
abbrev pub window_start : ℕ → ℕ → ℕ
window_start place len = min (place - 32) (len - 64)

abbrev pub window_end : ℕ → ℕ → ℕ
window_end place len = min len (window_start place len + 64)

pub record Around (place len start end : ℕ) : Type 0 where
  pub from : start ≡ window_start place len
  pub to : end ≡ window_end place len
  -- so a place of the sentence, or its end, is in view
  pub ordered : start ≤ end
  pub within : end ≤ len
  pub view : place ≤ len → (start ≤ place) × (place ≤ end)
  pub whole : len ≤ 64 → (start ≡ 0) × (end ≡ len)

-- a byte of printable ASCII stands for itself, any other for a question mark
abbrev pub shown_as : ℕ → ℕ
shown_as b = if nat_le 32 b && nat_le b 126 then b else 63
