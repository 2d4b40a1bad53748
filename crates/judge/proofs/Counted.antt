-- Free variables, counted in a list of marks. Assumes nothing.
use Rattle.std.proofs.Common.{◌≡◌, ℕ, zero, suc, ◌+◌, ◌<◌, ◌≤◌, Bool, false, cond, List, length, take, count_by, filter, get_or, refl, sym, ap, ap₂, ◌∙◌, add-one, arith}
use Rattle.std.proofs.lemmas.List.{take_all}
use Rattle.std.proofs.lemmas.List.Filters.{length-filter_more}
use Rattle.std.proofs.lemmas.List.Sums.{length-filter}
use Rattle.logic.specs.Syntax.{Formula, free}
use Rattle.logic.specs.Breadth.{free_below}

module _ (a : Formula) (marks : List Bool) (n : ℕ) (len : length marks ≡ n) (h : (v : ℕ) → v < n → get_or marks v false ≡ free v a) where
  up_to : (k : ℕ) → k ≤ n → length (filter (λ m. m) (take k marks)) ≡ free_below k a
  up_to zero l = refl
  up_to (suc k) l =
      ap (λ i. length (filter (λ m. m) (take i marks))) (sym (add-one k)) ∙ length-filter_more (λ m. m) marks k false (omega arith)
      ∙ ap₂ (λ i b. i + cond b 1 0) (up_to k (omega arith)) (h k l)

  -- as many marks are set as variables are free
  pub count_by_free : count_by (λ m. m) marks ≡ free_below n a
  count_by_free =
      sym (length-filter (λ m. m) marks) ∙ ap (λ ms. length (filter (λ m. m) ms)) (sym (take_all n marks (omega arith))) ∙ up_to n (omega arith)
