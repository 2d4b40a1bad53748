-- What the printer's sink did with a whole text. Assumes nothing.
use Rattle.std.proofs.Common.{◌≡◌, ℕ, ◌+◌, ◌<◌, ◌≤◌, List, [], ◌∷◌, ◌++◌, length, refl, ap, subst, ◌∙◌, append_assoc, append-nil, arith, length-set, set}
use Rattle.std.specs.List.{FoldsTo}
use Rattle.printer.specs.declared.sinks.Buffer.{Buffer}
use Rattle.printer.specs.Sinks.{Puts}
use Rattle.printer.specs.Printed.{Put}
use Rattle.printer.proofs.Fronts.{Front, blank, put}

-- t is s with a text behind the one that its buffer began with
pub record Filled (before done bytes : List ℕ) (s t : Buffer) : Type 0 where
  pub buffer : t.out.ghost_name ≡ s.out.ghost_name
  pub front : Front before t.out.now (done ++ bytes) t.at

pub filled : (before done bytes : List ℕ) (s t : Buffer) → length s.out.now ≡ length before → s.at + length bytes ≤ length before
    → Front before s.out.now done s.at → FoldsTo Puts s bytes t → Filled before done bytes s t
filled before done [] s t same fits f p = subst (Filled before done [] s) p (record {
  buffer = refl;
  front = rw append-nil f;
})
filled before done (b ∷ bytes) s t same fits f p =
    let j = p.0 in
    let one = p.1 in
    let inside : s.at < length s.out.now = omega arith in
    let e = one.bytes inside in
    let k = one.place inside in
    let grown : Front before (set s.out.now s.at b) (done ++ (b ∷ [])) (s.at + 1) = put b f (omega arith) in
    let long : length j.out.now ≡ length before = ap length e ∙ length-set s.out.now s.at b ∙ same in
    let rest = filled before (done ++ (b ∷ [])) bytes j t long (omega arith) (rw (e, k) grown) p.2 in
    record {
      buffer = rest.buffer ∙ one.buffer;
      front = subst (λ x. Front before t.out.now x t.at) (append_assoc done (b ∷ []) bytes) rest.front;
    }

-- the buffer is empty at first, and has room for the whole text
pub printed : (before bytes : List ℕ) (s t : Buffer) → s.out.now ≡ before → s.at ≡ 0 → length bytes ≤ length before
    → FoldsTo Puts s bytes t → (t.out.ghost_name ≡ s.out.ghost_name) × Put bytes before t.out.now (length bytes)
printed before bytes s t e z fits p =
    let all = filled before [] bytes s t (ap length e) (omega arith) (rw (e, z) (blank before)) p in
    (all.buffer, record { count = refl; fits = fits; bytes = let n = all.front.size in let b = all.front.bytes in cc })
