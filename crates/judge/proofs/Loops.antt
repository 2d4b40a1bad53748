-- The outermost of the loops over the variables below a number. Assumes nothing.
use Rattle.std.proofs.Common.{◌≡◌, ℕ, suc, false, sym, ap, ◌∙◌}
use Rattle.logic.specs.Syntax.{Formula, free}
use Rattle.logic.specs.Assignment.{assign}
use Rattle.logic.specs.Algebra.{Algebra, Judgeable}
use Rattle.logic.specs.Structure.{Structure}
use Rattle.logic.specs.Value.{meet}
use Rattle.logic.proofs.Weighed.{everywhere_vacuous}
use Rattle.judge.specs.Weighing.{weight_below}

module _ {V : Type 0} (A : Algebra V) (M : Structure V) (a : Formula) (ρ : ℕ → ℕ) where
  -- it gives each element to the last variable
  pub weight_below_loop : {n m k : ℕ} {v : V} → suc n ≡ m → k ≡ M.size → v ≡ meet A (λ e. weight_below A M a n (assign ρ n e)) k → v ≡ weight_below A M a m ρ
  weight_below_loop {n} e s h = h ∙ ap (meet A (λ e. weight_below A M a n (assign ρ n e))) s ∙ ap (λ i. weight_below A M a i ρ) e

  -- none is needed where that variable is not free
  pub weight_below_vacuous : {n m : ℕ} {v : V} → Judgeable A → suc n ≡ m → free n a ≡ false → v ≡ weight_below A M a n ρ → v ≡ weight_below A M a m ρ
  weight_below_vacuous {n} J e f h = h ∙ sym (everywhere_vacuous J M a n ρ f) ∙ ap (λ i. weight_below A M a i ρ) e
