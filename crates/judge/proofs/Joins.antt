-- Values joined one after the other. Assumes nothing.
use Rattle.std.proofs.Common.{◌≡◌, ℕ, ◌+◌, ◌<◌, ◌∙◌, ap₂, add-one}
use Rattle.logic.specs.Algebra.{Algebra, Judgeable}
use Rattle.logic.specs.Value.{connect, quantify}
use Rattle.logic.proofs.Finite.{meet_settled, join_settled}
use Rattle.judge.specs.declared.join.Join.{Join}
use Rattle.judge.specs.declared.join.Join.TheVariants.{And, Or}
use Rattle.judge.specs.Join.{connective, quantifier, Settled}

module _ {V : Type 0} (A : Algebra V) where
  joined_next : (j : Join) (f : ℕ → V) (n : ℕ) → connect A (connective j) (quantify A (quantifier j) f n) (f n) ≡ quantify A (quantifier j) f (n + 1)
  joined_next And f n = simp add-one
  joined_next Or f n = simp add-one

  -- one more value, joined to those before
  pub quantify_more : (j : Join) (f : ℕ → V) (n : ℕ) {before here after : V} → before ≡ quantify A (quantifier j) f n → here ≡ f n →
      after ≡ connect A (connective j) before here → after ≡ quantify A (quantifier j) f (n + 1)
  quantify_more j f n b h e = e ∙ ap₂ (connect A (connective j)) b h ∙ joined_next j f n

module _ {V : Type 0} {A : Algebra V} (J : Judgeable A) where
  -- the values after those that are settled change nothing
  pub quantify_settled : (j : Join) (f : ℕ → V) (n m : ℕ) (v : V) → v ≡ quantify A (quantifier j) f (n + 1) → n < m → Settled A j v →
      v ≡ quantify A (quantifier j) f m
  quantify_settled And f n m v e l s = meet_settled J f n m v (e ∙ simp add-one) l s
  quantify_settled Or f n m v e l s = join_settled J f n m v (e ∙ simp add-one) l s
