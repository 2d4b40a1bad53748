-- Bytes that a sink takes one after the other. Assumes nothing.
use Rattle.std.proofs.Common.{ℕ, List, [], ◌∷◌, ◌++◌, refl, sym, subst}
use Rattle.std.specs.List.{FoldsTo}

module _ {S : Type 0} (gives : S → ℕ → S → Type 0) where
  append : (a b : List ℕ) (s t u : S) → FoldsTo gives s a t → FoldsTo gives t b u → FoldsTo gives s (a ++ b) u
  append [] b s t u p q = subst (λ (x : S). FoldsTo gives x b u) (sym p) q
  append (x ∷ a) b s t u p q = (p.0, p.1, append a b p.0 t u p.2 q)

  -- bytes that change nothing
  pub unmoved : (bytes : List ℕ) (s : S) → ((b : ℕ) → gives s b s) → FoldsTo gives s bytes s
  unmoved [] s p = refl
  unmoved (b ∷ bytes) s p = (s, p b, unmoved bytes s p)

  -- a text, a byte, and the rest
  pub then_byte : (a : List ℕ) (b : ℕ) (rest : List ℕ) (s t u v : S)
      → FoldsTo gives s a t → gives t b u → FoldsTo gives u rest v → FoldsTo gives s (a ++ (b ∷ rest)) v
  then_byte a b rest s t u v p q r = append a (b ∷ rest) s t v p (u, q, r)
