-- Finitely many values joined by `and` and by `or`. Assumes nothing.
use Rattle.std.proofs.Common.{◌≡◌, ℕ, zero, suc, ◌<◌, ◌≤◌, sym, refl, ap, ◌∙◌, inl, inr, suc-le-suc, zero-le, le_of_suc-le-suc, not-suc-le-zero, eq-or-lt_of_le, arith}
use mathlib.Core.Path.{fun_ext}
use Rattle.logic.specs.Syntax.{Quantifier}
use Rattle.logic.specs.Algebra.{Algebra, Laws, Judgeable, AtLeast}
use Rattle.logic.specs.Value.{meet, join, quantify}
use Rattle.logic.proofs.Order.{least_trans, least_first, least_second, least_both, top_least}

module _ {V : Type 0} {A : Algebra V} (L : Laws A) where
  -- each value is at least all of them together
  pub meet_below : (f : ℕ → V) (n a : ℕ) → a < n → AtLeast A (f a) (meet A f n)
  meet_below f zero a h = absurd (not-suc-le-zero h)
  meet_below f (suc n) a h =
      elim (eq-or-lt_of_le (le_of_suc-le-suc h)) [
        | inl e ↦ rw e (least_second L (meet A f n) (f n))
        | inr l ↦ least_trans L (f a) (meet A f n) (A.and (meet A f n) (f n)) (meet_below f n a l) (least_first L (meet A f n) (f n))
      ]

  -- all of them together are at least what each of them is
  pub meet_greatest : (f : ℕ → V) (n : ℕ) (c : V) → ((a : ℕ) → a < n → AtLeast A (f a) c) → AtLeast A (meet A f n) c
  meet_greatest f zero c h = top_least L c
  meet_greatest f (suc n) c h =
      least_both L (meet A f n) (f n) c (meet_greatest f n c (λ a l. h a (omega arith))) (h n (omega arith))

module _ {V : Type 0} {A : Algebra V} (J : Judgeable A) where
  -- one value at each place: together it is that value
  pub meet_some : (c : V) (n : ℕ) → 1 ≤ n → meet A (λ _. c) n ≡ c
  meet_some c zero h = absurd (not-suc-le-zero h)
  meet_some c (suc zero) h = J.top_and c
  meet_some c (suc (suc n)) h = ap (λ v. A.and v c) (meet_some c (suc n) (suc-le-suc zero-le)) ∙ J.and_self c

  -- the `and` of some places whose `not` is top is that of all
  meet_stays : (f : ℕ → V) (n m : ℕ) → n ≤ m → A.not (meet A f n) ≡ A.top → meet A f m ≡ meet A f n
  meet_stays f n zero l h = let z : n ≡ 0 = omega arith in rw z refl
  meet_stays f n (suc m) l h =
      elim (eq-or-lt_of_le l) [
        | inl e ↦ rw e refl
        | inr k ↦ ap (λ v. A.and v (f m)) (meet_stays f n m (le_of_suc-le-suc k) h) ∙ J.and_settled (meet A f n) (f m) h
      ]

  pub meet_settled : (f : ℕ → V) (n m : ℕ) (v : V) → v ≡ meet A f (suc n) → n < m → A.not v ≡ A.top → v ≡ meet A f m
  meet_settled f n m v e l h = e ∙ sym (meet_stays f (suc n) m l (ap A.not (sym e) ∙ h))

  -- the `or` of some places that is top is that of all
  join_stays : (f : ℕ → V) (n m : ℕ) → n ≤ m → join A f n ≡ A.top → join A f m ≡ A.top
  join_stays f n zero l h = let z : n ≡ 0 = omega arith in rw z at h
  join_stays f n (suc m) l h =
      elim (eq-or-lt_of_le l) [
        | inl e ↦ rw e at h
        | inr k ↦ ap (λ v. A.or v (f m)) (join_stays f n m (le_of_suc-le-suc k) h) ∙ J.top_or (f m)
      ]

  pub join_settled : (f : ℕ → V) (n m : ℕ) (v : V) → v ≡ join A f (suc n) → n < m → v ≡ A.top → v ≡ join A f m
  join_settled f n m v e l h = h ∙ sym (join_stays f (suc n) m l (sym e ∙ h))

module _ {V : Type 0} (A : Algebra V) where
  -- the same values make the same
  pub quantify_same : (q : Quantifier) (f g : ℕ → V) (n : ℕ) → ((a : ℕ) → f a ≡ g a) → quantify A q f n ≡ quantify A q g n
  quantify_same q f g n h = ap (λ k. quantify A q k n) (fun_ext h)
