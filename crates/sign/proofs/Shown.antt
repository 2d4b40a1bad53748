-- What is written so far of a set of variables. Assumes nothing.
use Rattle.std.proofs.Common.{◌≡◌, ◌≢◌, ℕ, ◌+◌, Bool, true, false, List, [], ◌∷◌, ◌++◌, codes, Result, IsOk, refl, sym, subst, ◌∙◌, add-one, slice_index_or}
use Rattle.std.specs.declared.fmt.Error.{Error}
use Rattle.std.specs.declared.fmt.Formatter.{Formatter}
use Rattle.std.specs.Fmt.{HasWritten, WritesOnOk, IsPlainFormatter}
use Rattle.std.proofs.Output.{has_written_append, has_written_of_eq, writes_in_calls_nil}
use Rattle.sign.specs.Shown.{piece, behind, listed_below, or_none}

-- whether nothing was written yet
abbrev pub Tells : Bool → List ℕ → Type 0
Tells true text = text ≡ []
Tells false text = text ≢ []

piece_behind : (e : Bool) (text : List ℕ) (x : ℕ) → Tells e text → text ++ piece e x ≡ behind text x
piece_behind true [] x h = refl
piece_behind true (b ∷ bs) x h = cc
piece_behind false [] x h = absurd (h refl)
piece_behind false (b ∷ bs) x h = refl

behind_some : (text : List ℕ) (x : ℕ) → behind text x ≢ []
behind_some [] x e = cc
behind_some (b ∷ bs) x e = cc

some_told : (text : List ℕ) → text ≢ [] → text ≡ or_none text
some_told [] h = absurd (h refl)
some_told (b ∷ bs) h = refl

listed_in : (holds : List Bool) (n : ℕ) → slice_index_or holds n false ≡ true → listed_below holds (n + 1) ≡ behind (listed_below holds n) n
listed_in holds n h = simp (add-one, h)

listed_out : (holds : List Bool) (n : ℕ) → slice_index_or holds n false ≡ false → listed_below holds (n + 1) ≡ listed_below holds n
listed_out holds n h = simp (add-one, h)

module _ {W : Type 0} (took : W → List ℕ → W → Type 0) where
  -- what a loop over the variables has written before the variable n
  pub record Written (f : Formatter W) (holds : List Bool) (n : ℕ) (e : Bool) (g : Formatter W) : Type 0 where
    pub text : IsPlainFormatter f → HasWritten took f (listed_below holds n) g
    pub told : Tells e (listed_below holds n)

  pub written_none : (f : Formatter W) (holds : List Bool) → Written f holds 0 true f
  written_none f holds = record { text = λ plain. record { wrote = writes_in_calls_nil took f.writer; plain = plain }; told = refl }

  pub written_in : (f : Formatter W) (holds : List Bool) (n : ℕ) (e : Bool) (g h : Formatter W) (r : Result (Unit {0}) Error)
      → slice_index_or holds n false ≡ true → IsOk r → Written f holds n e g → WritesOnOk took g r (piece e n) h → Written f holds (n + 1) false h
  written_in f holds n e g h r is ok before adds = record {
    text = λ plain.
        let w = before.text plain in
        has_written_of_eq took f _ _ h (piece_behind e (listed_below holds n) n before.told ∙ sym (listed_in holds n is))
        (has_written_append took f _ g _ h w (adds w.plain ok));
    told = subst (λ t. t ≢ []) (sym (listed_in holds n is)) (behind_some (listed_below holds n) n);
  }

  pub written_out : (f : Formatter W) (holds : List Bool) (n : ℕ) (e : Bool) (g : Formatter W)
      → slice_index_or holds n false ≡ false → Written f holds n e g → Written f holds (n + 1) e g
  written_out f holds n e g is before = record {
    text = λ plain. has_written_of_eq took f _ _ g (sym (listed_out holds n is)) (before.text plain);
    told = subst (Tells e) (sym (listed_out holds n is)) before.told;
  }

  pub written_last : (f : Formatter W) (holds : List Bool) (n : ℕ) (g h : Formatter W) (r : Result (Unit {0}) Error)
      → Written f holds n true g → WritesOnOk took g r (codes "none") h → WritesOnOk took f r (or_none (listed_below holds n)) h
  written_last f holds n g h r all adds plain ok =
      let w = all.text plain in
      has_written_of_eq took f _ _ h (subst (λ t. t ++ codes "none" ≡ or_none t) (sym all.told) refl)
      (has_written_append took f _ g _ h w (adds w.plain ok))

  pub written_all : (f : Formatter W) (holds : List Bool) (n : ℕ) (g : Formatter W)
      → Written f holds n false g → IsPlainFormatter f → HasWritten took f (or_none (listed_below holds n)) g
  written_all f holds n g all plain = has_written_of_eq took f _ _ g (some_told (listed_below holds n) all.told) (all.text plain)
