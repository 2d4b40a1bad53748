-- A buffer that is written from its front on. Assumes nothing.
use Rattle.std.proofs.Common.{◌≡◌, ℕ, ◌+◌, ◌<◌, List, [], ◌∷◌, ◌++◌, length, get_or, drop, take, set, refl, sym, ap, ◌∙◌, append_assoc, length-append}
use Rattle.std.proofs.lemmas.List.{drop_more, set_at, take_at}
use Rattle.printer.specs.Printed.{Put}

-- s begins with the text t of n bytes, and is behind it as s0 was
pub record Front (s0 s t : List ℕ) (n : ℕ) : Type 0 where
  pub size : length t ≡ n
  pub bytes : s ≡ t ++ drop n s0

pub blank : (s0 : List ℕ) → Front s0 s0 [] 0
blank s0 = record { size = refl; bytes = refl }

put_bytes : (s0 s t : List ℕ) (n x : ℕ) → s ≡ t ++ drop n s0 → length t ≡ n → n < length s0
    → set s n x ≡ (t ++ (x ∷ [])) ++ drop (n + 1) s0
put_bytes s0 s t n x e l h =
    let d = drop_more s0 n 0 h in
    let a = set_at t (get_or s0 n 0) (drop (n + 1) s0) x n l in
    let b : (t ++ (x ∷ [])) ++ drop (n + 1) s0 ≡ t ++ (x ∷ drop (n + 1) s0) = append_assoc t (x ∷ []) (drop (n + 1) s0) in
    cc

-- one byte more
pub put : {s0 s t : List ℕ} {n : ℕ} (x : ℕ) → Front s0 s t n → n < length s0 → Front s0 (set s n x) (t ++ (x ∷ [])) (n + 1)
put {s0} {s} {t} {n} x f h = record {
  size = length-append t (x ∷ []) ∙ ap (λ k. k + 1) f.size;
  bytes = put_bytes s0 s t n x f.bytes f.size h;
}

-- what stands at the front is the text
pub front : {text before after : List ℕ} {n : ℕ} → Put text before after n → take n after ≡ text
front {text} {before} {after} {n} p = ap (take n) p.bytes ∙ take_at text (drop n before) n (sym p.count)
