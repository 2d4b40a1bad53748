-- From the last step of a reader to what is told of the whole text. Assumes nothing.
use Rattle.std.proofs.Common.{◌≡◌, ℕ, ◌<◌, ◌≤◌, true, false, ltb, List, length, Ok, Err, Result, sym, refl, ap, ◌∙◌, MatchResult, arith}
use Rattle.std.proofs.lemmas.Bool.{lt-ltb, le-ltb}
use Rattle.logic.specs.Reading.{Out, got, reads, closed}
use Rattle.reader.specs.Answers.{Failed}
use Rattle.reader.specs.Steps.{Step, Alone}
use Rattle.reader.specs.Told.{Tells}
use Rattle.reader.specs.declared.Reader.{Reader}
use Rattle.fault.proofs.Mapped.{mapped}
use Rattle.fault.specs.declared.fault.Source.{Source}
use Rattle.fault.specs.declared.fault.Misreading.TheVariants.{AfterEnd}
use Rattle.fault.specs.declared.fault.Fault.{Fault}
use Rattle.fault.specs.declared.fault.Fault.TheVariants.{Reading}

failed_tells : {A : Type 0} (bytes : List ℕ) (s : Source) (e : Fault) (o : Out A) → Failed s e o → Tells s (closed bytes o) e
failed_tells bytes s e o = mapped _ _ (λ m r i h. (h.0, ap (closed bytes) h.1)) e

-- F reads from the front: the reader's bytes are the text, and it began at place 0 with no part
module _ {A : Type 0} (F : List ℕ → ℕ → ℕ → Out A) (bytes held : List ℕ) (at n : ℕ) (same : held ≡ bytes) (front : at ≡ 0) (fresh : n ≡ 0) where
  begun_so : F held at n ≡ F bytes 0 0
  begun_so = cc

  pub told_tree : (x : A) (i m : ℕ) → F held at n ≡ got x i m → length held ≤ i → closed bytes (F bytes 0 0) ≡ reads x
  told_tree x i m e l =
      let end : ltb i (length bytes) ≡ false = ap (λ (z : List ℕ). ltb i (length z)) (sym same) ∙ le-ltb i (length held) l in
      ap (closed bytes) (sym begun_so ∙ e) ∙ rw end refl

  pub told_after : (s q : Source) (x : A) (i m : ℕ) → q ≡ s → F held at n ≡ got x i m → i < length held → Tells s (closed bytes (F bytes 0 0)) (Reading AfterEnd q i)
  told_after s q x i m of e l =
      let more : ltb i (length bytes) ≡ true = ap (λ (z : List ℕ). ltb i (length z)) (sym same) ∙ lt-ltb i (length held) l in
      (of, ap (closed bytes) (sym begun_so ∙ e) ∙ rw more refl)

  pub told_fault : (s q : Source) (e : Fault) → q ≡ s → Failed q e (F held at n) → Tells s (closed bytes (F bytes 0 0)) e
  told_fault s q e of h = rw (← begun_so, ← of) (failed_tells bytes q e (F held at n) h)

-- what is told where the reader takes all from the front, and then nothing may follow
pub told_whole : {X A : Type 0} (view : X → A) (F : List ℕ → ℕ → ℕ → Out A) (bytes : List ℕ) (s : Source) (begun after : Reader) (taken r : Result X Fault)
    → begun.bytes.now ≡ bytes → begun.source ≡ s → begun.at ≡ 0 → begun.parts ≡ 0 → Step view F begun after taken → Alone taken after r
    → MatchResult r (λ x. closed bytes (F bytes 0 0) ≡ reads (view x)) (Tells s (closed bytes (F bytes 0 0)))
told_whole view F bytes s begun after (Err f) r same of front fresh step end =
    rw end (told_fault F bytes begun.bytes.now begun.at begun.parts same front fresh s begun.source f of step.2)
told_whole view F bytes s begun after (Ok x) (Ok y) same of front fresh step end =
    rw end.0 (told_tree F bytes begun.bytes.now begun.at begun.parts same front fresh (view x) after.at after.parts step.2
    (omega (arith, ap (λ z. length z.now) step.0, end.1)))
told_whole view F bytes s begun after (Ok x) (Err e) same of front fresh step end =
    rw end.1 (told_after F bytes begun.bytes.now begun.at begun.parts same front fresh s after.source (view x) after.at after.parts (step.1 ∙ of) step.2
    (omega (arith, ap (λ z. length z.now) step.0, end.0)))
