-- Tests of Booleans and numbers. Assumes nothing.
use Rattle.std.proofs.Common.{◌≡◌, ℕ, ◌<◌, Bool, true, false, cond, eqb, sym, refl, ap, ◌∙◌, subst, true≢false, arith}
use mathlib.Core.Path.{fun_ext}
use Rattle.std.proofs.lemmas.Bool.{eqb-true, eq-eqb}
use Rattle.logic.specs.Assignment.{assign}

-- a test does not both pass and fail
pub clash {ℓ} : {X : Type ℓ} (b : Bool) → b ≡ true → b ≡ false → X
clash b p q = absurd (true≢false (sym p ∙ q))

-- two numbers are one or differ
pub data Compared (x y : ℕ) : Type 0 where
  same : x ≡ y → eqb x y ≡ true → eqb y x ≡ true → Compared x y
  other : eqb x y ≡ false → eqb y x ≡ false → Compared x y

pub compared : (x y : ℕ) → Compared x y
compared x y = go (eqb x y) (eqb y x) refl refl
  where
    go : (b c : Bool) → eqb x y ≡ b → eqb y x ≡ c → Compared x y
    go true true p q = same (eqb-true x y p) p q
    go true false p q = clash (eqb y x) (subst (λ z. eqb z x ≡ true) (eqb-true x y p) (eq-eqb x x refl)) q
    go false true p q = clash (eqb x y) (subst (λ z. eqb z y ≡ true) (eqb-true y x q) (eq-eqb y y refl)) p
    go false false p q = other p q

pub assign_at : (ρ : ℕ → ℕ) (x a y : ℕ) → eqb x y ≡ true → assign ρ x a y ≡ a
assign_at ρ x a y h = ap (λ b. cond b a (ρ y)) h

pub assign_off : (ρ : ℕ → ℕ) (x a y : ℕ) → eqb x y ≡ false → assign ρ x a y ≡ ρ y
assign_off ρ x a y h = ap (λ b. cond b a (ρ y)) h

-- assignments that agree at y unless y is x agree there with x assigned
pub assign_agree : (ρ σ : ℕ → ℕ) (x a y : ℕ) → (eqb x y ≡ false → ρ y ≡ σ y) → assign ρ x a y ≡ assign σ x a y
assign_agree ρ σ x a y h = go (eqb x y) h
  where
    go : (b : Bool) → (b ≡ false → ρ y ≡ σ y) → cond b a (ρ y) ≡ cond b a (σ y)
    go true k = refl
    go false k = k refl

-- two variables may be assigned in either order
pub assign_swap : (ρ : ℕ → ℕ) (x e y d : ℕ) → y < x → assign (assign ρ x e) y d ≡ assign (assign ρ y d) x e
assign_swap ρ x e y d l = fun_ext (λ z. go z (compared x z) (compared y z))
  where
    go : (z : ℕ) → Compared x z → Compared y z → assign (assign ρ x e) y d z ≡ assign (assign ρ y d) x e z
    go z (same p _ _) (same q _ _) = absurd (omega arith)
    go z (same p at _) (other off _) = assign_off (assign ρ x e) y d z off ∙ assign_at ρ x e z at ∙ sym (assign_at (assign ρ y d) x e z at)
    go z (other off _) (same q at _) = assign_at (assign ρ x e) y d z at ∙ sym (assign_off (assign ρ y d) x e z off ∙ assign_at ρ y d z at)
    go z (other off _) (other off' _) = assign_off (assign ρ x e) y d z off' ∙ assign_off ρ x e z off ∙ sym (assign_off (assign ρ y d) x e z off ∙ assign_off ρ y d z off')
