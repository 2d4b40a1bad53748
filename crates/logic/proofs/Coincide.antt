-- A value depends on the free variables alone. Assumes nothing.
use Rattle.std.proofs.Common.{◌≡◌, ℕ, ◌<◌, Bool, true, false, cond, not, eqb, refl, ap, subst, ap₂}
use Rattle.logic.specs.Syntax.{Term, variable, constant, apply1, apply2, Formula, pred0, pred1, pred2, negation, binary, quantified, occurs, free}
use Rattle.logic.specs.Assignment.{assign}
use Rattle.logic.specs.Algebra.{Algebra}
use Rattle.logic.specs.Structure.{Structure}
use Rattle.logic.specs.Value.{element, Into, value, connect}
use Rattle.logic.proofs.Numbers.{clash, same, other, compared, assign_off, assign_agree}
use Rattle.std.proofs.lemmas.Bool.{or_left, or_right, and_from, eq-eqb}
use Rattle.logic.proofs.Finite.{quantify_same}

module _ {V : Type 0} (M : Structure V) where
  -- an element more keeps an assignment in the structure
  pub assign_into : (ρ : ℕ → ℕ) → Into M ρ → (x e : ℕ) → e < M.size → Into M (assign ρ x e)
  assign_into ρ h x e l y = go (eqb x y)
    where
      go : (b : Bool) → cond b e (ρ y) < M.size
      go true = l
      go false = h y

  pub element_coincide : (t : Term) (ρ σ : ℕ → ℕ) → ((y : ℕ) → occurs y t ≡ true → ρ y ≡ σ y) → element M ρ t ≡ element M σ t
  element_coincide (variable x) ρ σ h = h x (eq-eqb x x refl)
  element_coincide (constant c) ρ σ h = refl
  element_coincide (apply1 f s) ρ σ h = ap (M.fun1 f) (element_coincide s ρ σ h)
  element_coincide (apply2 f s t) ρ σ h =
      ap₂ (M.fun2 f)
      (element_coincide s ρ σ (λ y k. h y (or_left (occurs y s) (occurs y t) k)))
      (element_coincide t ρ σ (λ y k. h y (or_right (occurs y s) (occurs y t) k)))

module _ {V : Type 0} (A : Algebra V) (M : Structure V) where
  pub value_coincide : (a : Formula) (ρ σ : ℕ → ℕ) → ((y : ℕ) → free y a ≡ true → ρ y ≡ σ y) → value A M ρ a ≡ value A M σ a
  value_coincide (pred0 p) ρ σ h = refl
  value_coincide (pred1 p s) ρ σ h = ap (M.pred1 p) (element_coincide M s ρ σ h)
  value_coincide (pred2 p s t) ρ σ h =
      ap₂ (M.pred2 p)
      (element_coincide M s ρ σ (λ y k. h y (or_left (occurs y s) (occurs y t) k)))
      (element_coincide M t ρ σ (λ y k. h y (or_right (occurs y s) (occurs y t) k)))
  value_coincide (negation a) ρ σ h = ap A.not (value_coincide a ρ σ h)
  value_coincide (binary k a b) ρ σ h =
      ap₂ (connect A k)
      (value_coincide a ρ σ (λ y j. h y (or_left (free y a) (free y b) j)))
      (value_coincide b ρ σ (λ y j. h y (or_right (free y a) (free y b) j)))
  value_coincide (quantified q x a) ρ σ h =
      quantify_same A q (λ e. value A M (assign ρ x e) a) (λ e. value A M (assign σ x e) a) M.size
      (λ e. value_coincide a (assign ρ x e) (assign σ x e)
      (λ y k. assign_agree ρ σ x e y (λ p. h y (and_from (not (eqb x y)) (free y a) (ap not p) k))))

  -- a variable that is not free in a formula may have any element
  pub value_fresh : (a : Formula) (ρ : ℕ → ℕ) (v e : ℕ) → free v a ≡ false → value A M (assign ρ v e) a ≡ value A M ρ a
  value_fresh a ρ v e h =
      value_coincide a (assign ρ v e) ρ
      (λ y k. elim (compared v y) [
        | same p _ _ ↦ clash (free y a) k (subst (λ z. free z a ≡ false) p h)
        | other p _ ↦ assign_off ρ v e y p
      ])
