-- A text that a formatter took byte by byte is written. Assumes nothing.
use Rattle.std.proofs.Common.{◌≡◌, ℕ, suc, List, [], ◌∷◌, IsOk, refl, subst, ◌∙◌}
use Rattle.std.specs.Fmt.{WritesOnOk}
use Rattle.std.specs.List.{FoldsTo}
use Rattle.std.specs.Str.{IsAscii}
use Rattle.std.proofs.Output.{writes_in_calls_nil, has_written_append}
use Rattle.formula.specs.declared.display.Writer.{Writer}
use Rattle.formula.specs.Display.{Writes}

module _ {W : Type 0} (took : W → List ℕ → W → Type 0) where
  -- t is s after all bytes
  pub record Written (s : Writer W) (bytes : List ℕ) (t : Writer W) : Type 0 where
    pub formatter : t.f.ghost_name ≡ s.f.ghost_name
    pub first : IsOk t.result → IsOk s.result
    pub writes : WritesOnOk took s.f.now t.result bytes t.f.now

  blank : (s : Writer W) → Written s [] s
  blank s = record {
    formatter = refl;
    first = λ ok. ok;
    writes = λ plain ok. record { wrote = writes_in_calls_nil took s.f.now.writer; plain = plain };
  }

  pub written : (bytes : List ℕ) (s t : Writer W) → IsAscii bytes → FoldsTo (Writes took) s bytes t → Written s bytes t
  written [] s t ascii p = subst (Written s []) p (blank s)
  written (b ∷ bytes) s t ascii p =
      let j = p.0 in
      let one = p.1 in
      let rest = written bytes j t (λ i. ascii (suc i)) p.2 in
      record {
        formatter = rest.formatter ∙ one.formatter;
        first = λ ok. one.first (rest.first ok);
        writes = λ plain ok.
            let begun = one.writes (ascii 0) (rest.first ok) plain (rest.first ok) in
            has_written_append took s.f.now (b ∷ []) j.f.now bytes t.f.now begun (rest.writes begun.plain ok);
      }
