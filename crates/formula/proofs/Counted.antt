-- The bytes of a whole text, counted. Assumes nothing.
use Rattle.std.proofs.Common.{◌≡◌, ℕ, ◌+◌, List, [], ◌∷◌, length, subst, arith}
use Rattle.std.specs.List.{FoldsTo}
use Rattle.formula.specs.declared.count.Count.{Count}
use Rattle.formula.specs.Counts.{HasCounted, CountsOne}

pub counted : (bytes : List ℕ) (s t : Count) (room n m : ℕ) → n + length bytes ≡ m
    → HasCounted room s n → FoldsTo CountsOne s bytes t → HasCounted room t m
counted [] s t room n m e h p = let k : n ≡ m = omega arith in subst (λ x. HasCounted room x m) p (subst (HasCounted room s) k h)
counted (b ∷ bytes) s t room n m e h p = counted bytes p.0 t room (n + 1) m (omega arith) (p.1 room n h) p.2
