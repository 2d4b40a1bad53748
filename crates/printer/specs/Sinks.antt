-- What the printer's sink does with a byte. Assumes nothing.
use Rattle.std.specs.Prelude.{◌≡◌, ℕ, ◌+◌, ◌<◌, length, set}
use Rattle.printer.specs.declared.sinks.Buffer.{Buffer}

-- the byte stands at the place, where the buffer has it, and the place is the next
pub record Puts (s : Buffer) (byte : ℕ) (t : Buffer) : Type 0 where
  pub buffer : t.out.ghost_name ≡ s.out.ghost_name
  pub bytes : s.at < length s.out.now → t.out.now ≡ set s.out.now s.at byte
  pub place : s.at < length s.out.now → t.at ≡ s.at + 1
