-- The weight is the greatest lower bound of the values, and a variable that is not free changes no weight. Assumes nothing.
use Rattle.std.proofs.Common.{◌≡◌, ℕ, zero, suc, ◌<◌, ◌≤◌, true, false, not, eqb, replicate, refl, ap, ◌∙◌, subst, inl, inr, zero-le, arith}
use mathlib.Core.Path.{fun_ext}
use mathlib.Core.Bool.{false≢true}
use Rattle.std.proofs.lemmas.Bool.{eqb-true, eqb-false, or_cases, and_parts}
use Rattle.logic.specs.Syntax.{Term, variable, constant, apply1, apply2, every, Formula, pred0, pred1, pred2, negation, binary, quantified, occurs, free}
use Rattle.logic.specs.Text.{names, TermNamed, Named}
use Rattle.logic.specs.Assignment.{assign, listed}
use Rattle.logic.specs.Algebra.{Algebra, Laws, Judgeable, AtLeast}
use Rattle.logic.specs.Structure.{Structure}
use Rattle.logic.specs.Value.{meet, Into, value}
use Rattle.logic.specs.Weight.{everywhere, zeros, weight, Weighed, WeightMeans}
use Rattle.logic.proofs.Numbers.{same, other, compared, assign_at, assign_off, assign_swap}
use Rattle.logic.proofs.Boolean.{and_self}
use Rattle.logic.proofs.Order.{at_top, top_least, least_trans}
use Rattle.logic.proofs.Finite.{meet_below, meet_greatest, meet_some, quantify_same}
use Rattle.logic.proofs.Coincide.{value_coincide, value_fresh, assign_into}

-- a variable that is free in a formula of the grammar is one of the language
term_narrow : (t : Term) → TermNamed t → (x : ℕ) → occurs x t ≡ true → x < names
term_narrow (variable y) n x h = subst (λ z. z < names) (eqb-true y x h) n
term_narrow (constant c) n x h = absurd (false≢true h)
term_narrow (apply1 f s) n x h = term_narrow s n.1 x h
term_narrow (apply2 f s t) n x h =
    elim (or_cases (occurs x s) (occurs x t) h) [ inl k ↦ term_narrow s n.1 x k | inr k ↦ term_narrow t n.2 x k ]

pub narrow : (a : Formula) → Named a → (x : ℕ) → free x a ≡ true → x < names
narrow (pred0 p) n x h = absurd (false≢true h)
narrow (pred1 p s) n x h = term_narrow s n.1 x h
narrow (pred2 p s t) n x h =
    elim (or_cases (occurs x s) (occurs x t) h) [ inl k ↦ term_narrow s n.1 x k | inr k ↦ term_narrow t n.2 x k ]
narrow (negation a) n x h = narrow a n x h
narrow (binary c a b) n x h =
    elim (or_cases (free x a) (free x b) h) [ inl k ↦ narrow a n.0 x k | inr k ↦ narrow b n.1 x k ]
narrow (quantified q y a) n x h = narrow a n.1 x (and_parts (not (eqb y x)) (free x a) h).1

module _ {V : Type 0} {A : Algebra V} (L : Laws A) (M : Structure V) (a : Formula) where
  abbrev at : (ℕ → ℕ) → V
  at ρ = value A M ρ a

  -- σ is ρ from n on, as far as the formula can see
  lower : (n : ℕ) (ρ σ : ℕ → ℕ) → Into M σ → ((y : ℕ) → free y a ≡ true → n ≤ y → ρ y ≡ σ y) →
      AtLeast A (at σ) (everywhere A M.size at n ρ)
  lower zero ρ σ i h =
      subst (λ v. AtLeast A v (at ρ)) (value_coincide A M a ρ σ (λ y f. h y f zero-le)) (and_self L (at ρ))
  lower (suc n) ρ σ i h =
      let f : ℕ → V = λ e. everywhere A M.size at n (assign ρ n e) in
      least_trans L (at σ) (f (σ n)) (meet A f M.size)
      (lower n (assign ρ n (σ n)) σ i
      (λ y k l. elim (compared n y) [
        | same p at_y _ ↦ assign_at ρ n (σ n) y at_y ∙ ap σ p
        | other off _ ↦ let ne = eqb-false n y off in assign_off ρ n (σ n) y off ∙ h y k (omega (arith, ne, l))
      ]))
      (meet_below L f M.size (σ n) (i n))

  greatest : (n : ℕ) (ρ : ℕ → ℕ) → Into M ρ → (c : V) → ((σ : ℕ → ℕ) → Into M σ → AtLeast A (at σ) c) →
      AtLeast A (everywhere A M.size at n ρ) c
  greatest zero ρ i c h = h ρ i
  greatest (suc n) ρ i c h =
      meet_greatest L (λ e. everywhere A M.size at n (assign ρ n e)) M.size c
      (λ e l. greatest n (assign ρ n e) (assign_into M ρ i n e l) c h)

  pub weighed : Named a → Weighed A M a
  weighed n = record {
    lower = below;
    greatest = above;
    top = (
      λ e ρ i. at_top L (at ρ) (subst (AtLeast A (at ρ)) e (below ρ i)),
      λ h. at_top L (weight A M a) (above A.top (λ ρ i. rw (h ρ i) (top_least L A.top))),
    );
  }
    where
      below : (ρ : ℕ → ℕ) → Into M ρ → AtLeast A (at ρ) (weight A M a)
      below ρ i = lower names zeros ρ i (λ y k l. let s = narrow a n y k in absurd (omega (arith, s, l)))

      above : (c : V) → ((ρ : ℕ → ℕ) → Into M ρ → AtLeast A (at ρ) c) → AtLeast A (weight A M a) c
      above = greatest names zeros (λ x. M.inhabited)

pub weight_means : {V : Type 0} {A : Algebra V} → Laws A → WeightMeans A
weight_means L M a n = weighed L M a n

module _ {V : Type 0} {A : Algebra V} (J : Judgeable A) where
  -- a variable that f does not depend on
  everywhere_fresh : (size : ℕ) (f : (ℕ → ℕ) → V) (x : ℕ) → ((ρ : ℕ → ℕ) (e : ℕ) → f (assign ρ x e) ≡ f ρ) → (n : ℕ) → n ≤ x → (ρ : ℕ → ℕ) (e : ℕ) →
      everywhere A size f n (assign ρ x e) ≡ everywhere A size f n ρ
  everywhere_fresh size f x h zero l ρ e = h ρ e
  everywhere_fresh size f x h (suc n) l ρ e =
      quantify_same A every (λ d. everywhere A size f n (assign (assign ρ x e) n d)) (λ d. everywhere A size f n (assign ρ n d)) size
      (λ d. ap (everywhere A size f n) (assign_swap ρ x e n d (omega arith)) ∙ everywhere_fresh size f x h n (omega arith) (assign ρ n d) e)

  -- a variable that is not free needs no loop
  pub everywhere_vacuous : (M : Structure V) (a : Formula) (n : ℕ) (ρ : ℕ → ℕ) → free n a ≡ false →
      everywhere A M.size (λ σ. value A M σ a) (suc n) ρ ≡ everywhere A M.size (λ σ. value A M σ a) n ρ
  everywhere_vacuous M a n ρ h =
      quantify_same A every (λ e. everywhere A M.size (λ σ. value A M σ a) n (assign ρ n e)) (λ _. everywhere A M.size (λ σ. value A M σ a) n ρ) M.size
      (λ e. everywhere_fresh M.size (λ σ. value A M σ a) n (λ σ d. value_fresh A M a σ n d h) n (omega arith) ρ e)
      ∙ meet_some J (everywhere A M.size (λ σ. value A M σ a) n ρ) M.size M.inhabited

zeros_at : (n y : ℕ) → listed (replicate n 0) y ≡ zeros y
zeros_at zero y = refl
zeros_at (suc n) zero = refl
zeros_at (suc n) (suc y) = zeros_at n y

-- an array of zeros gives element 0 to each variable
pub listed_zeros : (n : ℕ) → listed (replicate n 0) ≡ zeros
listed_zeros n = fun_ext (zeros_at n)
