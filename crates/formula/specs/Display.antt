-- What a formatter that keeps the first error does with a byte. Assumes nothing.
use Rattle.std.specs.Prelude.{◌≡◌, ℕ, ◌<◌, List, [], ◌∷◌, IsOk}
use Rattle.std.specs.Fmt.{WritesOnOk}
use Rattle.formula.specs.declared.display.Writer.{Writer}

-- t is s after the byte, which was written where it is ASCII and neither it nor one before it met an error
pub record Writes {W : Type 0} (took : W → List ℕ → W → Type 0) (s : Writer W) (byte : ℕ) (t : Writer W) : Type 0 where
  pub formatter : t.f.ghost_name ≡ s.f.ghost_name
  pub first : IsOk t.result → IsOk s.result
  pub writes : byte < 128 → IsOk t.result → WritesOnOk took s.f.now t.result (byte ∷ []) t.f.now
