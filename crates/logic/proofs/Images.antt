-- The value of a formula in an image is the image of its value. Assumes nothing.
use Rattle.std.proofs.Common.{◌≡◌, ℕ, zero, suc, sym, refl, ap, ◌∙◌, ap₂}
use Rattle.logic.specs.Syntax.{Term, variable, constant, apply1, apply2, Connective, conjunction, disjunction, implication, Quantifier, every, some, Formula, pred0, pred1, pred2, negation, binary, quantified}
use Rattle.logic.specs.Text.{names}
use Rattle.logic.specs.Assignment.{assign}
use Rattle.logic.specs.Algebra.{Algebra, Laws, Keeps}
use Rattle.logic.specs.Structure.{Structure}
use Rattle.logic.specs.Value.{meet, join, connect, quantify, element, value}
use Rattle.logic.specs.Weight.{everywhere, zeros, weight}
use Rattle.logic.proofs.Finite.{quantify_same}

-- the second structure has the elements of the first, and the images of its values
pub record Image {V W : Type 0} (h : V → W) (M : Structure V) (N : Structure W) : Type 0 where
  pub size : N.size ≡ M.size
  pub con : (c : ℕ) → N.con c ≡ M.con c
  pub fun1 : (f a : ℕ) → N.fun1 f a ≡ M.fun1 f a
  pub fun2 : (f a b : ℕ) → N.fun2 f a b ≡ M.fun2 f a b
  pub pred0 : (p : ℕ) → N.pred0 p ≡ h (M.pred0 p)
  pub pred1 : (p a : ℕ) → N.pred1 p a ≡ h (M.pred1 p a)
  pub pred2 : (p a b : ℕ) → N.pred2 p a b ≡ h (M.pred2 p a b)

module _ {V W : Type 0} {A : Algebra V} {B : Algebra W} {h : V → W} (K : Keeps A B h) where
  meet_image : (f : ℕ → V) (n : ℕ) → meet B (λ e. h (f e)) n ≡ h (meet A f n)
  meet_image f zero = sym K.top
  meet_image f (suc n) = ap (λ v. B.and v (h (f n))) (meet_image f n) ∙ sym (K.and (meet A f n) (f n))

  join_image : (f : ℕ → V) (n : ℕ) → join B (λ e. h (f e)) n ≡ h (join A f n)
  join_image f zero = sym K.bottom
  join_image f (suc n) = ap (λ v. B.or v (h (f n))) (join_image f n) ∙ sym (K.or (join A f n) (f n))

  quantify_image : (q : Quantifier) (f : ℕ → V) (n : ℕ) → quantify B q (λ e. h (f e)) n ≡ h (quantify A q f n)
  quantify_image every f n = meet_image f n
  quantify_image some f n = join_image f n

  connect_image : (k : Connective) (a b : V) → connect B k (h a) (h b) ≡ h (connect A k a b)
  connect_image conjunction a b = sym (K.and a b)
  connect_image disjunction a b = sym (K.or a b)
  connect_image implication a b = ap (λ v. B.or v (h b)) (sym (K.not a)) ∙ sym (K.or (A.not a) b)

module _ {V W : Type 0} {h : V → W} {M : Structure V} {N : Structure W} (I : Image h M N) where
  element_image : (ρ : ℕ → ℕ) (t : Term) → element N ρ t ≡ element M ρ t
  element_image ρ (variable x) = refl
  element_image ρ (constant c) = I.con c
  element_image ρ (apply1 f s) = ap (N.fun1 f) (element_image ρ s) ∙ I.fun1 f (element M ρ s)
  element_image ρ (apply2 f s t) = ap₂ (N.fun2 f) (element_image ρ s) (element_image ρ t) ∙ I.fun2 f (element M ρ s) (element M ρ t)

module _ {V W : Type 0} {A : Algebra V} {B : Algebra W} {h : V → W} (K : Keeps A B h) {M : Structure V} {N : Structure W} (I : Image h M N) where
  pub value_image : (ρ : ℕ → ℕ) (a : Formula) → value B N ρ a ≡ h (value A M ρ a)
  value_image ρ (pred0 p) = I.pred0 p
  value_image ρ (pred1 p s) = ap (N.pred1 p) (element_image I ρ s) ∙ I.pred1 p (element M ρ s)
  value_image ρ (pred2 p s t) = ap₂ (N.pred2 p) (element_image I ρ s) (element_image I ρ t) ∙ I.pred2 p (element M ρ s) (element M ρ t)
  value_image ρ (negation a) = ap B.not (value_image ρ a) ∙ sym (K.not (value A M ρ a))
  value_image ρ (binary k a b) = ap₂ (connect B k) (value_image ρ a) (value_image ρ b) ∙ connect_image K k (value A M ρ a) (value A M ρ b)
  value_image ρ (quantified q x a) =
      ap (quantify B q (λ e. value B N (assign ρ x e) a)) I.size
      ∙ quantify_same B q (λ e. value B N (assign ρ x e) a) (λ e. h (value A M (assign ρ x e) a)) M.size (λ e. value_image (assign ρ x e) a)
      ∙ quantify_image K q (λ e. value A M (assign ρ x e) a) M.size

  everywhere_image : (a : Formula) (n : ℕ) (ρ : ℕ → ℕ) →
      everywhere B N.size (λ σ. value B N σ a) n ρ ≡ h (everywhere A M.size (λ σ. value A M σ a) n ρ)
  everywhere_image a zero ρ = value_image ρ a
  everywhere_image a (suc n) ρ =
      ap (meet B (λ e. everywhere B N.size (λ σ. value B N σ a) n (assign ρ n e))) I.size
      ∙ quantify_same B every (λ e. everywhere B N.size (λ σ. value B N σ a) n (assign ρ n e)) (λ e. h (everywhere A M.size (λ σ. value A M σ a) n (assign ρ n e))) M.size
      (λ e. everywhere_image a n (assign ρ n e))
      ∙ meet_image K (λ e. everywhere A M.size (λ σ. value A M σ a) n (assign ρ n e)) M.size

  pub weight_image : (a : Formula) → weight B N a ≡ h (weight A M a)
  weight_image a = everywhere_image a names zeros

-- values that are one where all their images are keep the laws that the images keep
module _ {V W I : Type 0} {A : Algebra V} {B : Algebra W} (h : I → V → W) (K : (i : I) → Keeps A B (h i)) (L : Laws B)
    (one : (a b : V) → ((i : I) → h i a ≡ h i b) → a ≡ b) where
  pub laws_image : Laws A
  laws_image = record {
    and_comm = λ a b. one (A.and a b) (A.and b a) (λ i. cc ((K i).and a b, (K i).and b a, L.and_comm (h i a) (h i b)));
    or_comm = λ a b. one (A.or a b) (A.or b a) (λ i. cc ((K i).or a b, (K i).or b a, L.or_comm (h i a) (h i b)));
    and_or = λ a b c. one (A.and a (A.or b c)) (A.or (A.and a b) (A.and a c)) (λ i. cc ((K i).and a (A.or b c), (K i).or b c, (K i).or (A.and a b) (A.and a c), (K i).and a b, (K i).and a c, L.and_or (h i a) (h i b) (h i c)));
    or_and = λ a b c. one (A.or a (A.and b c)) (A.and (A.or a b) (A.or a c)) (λ i. cc ((K i).or a (A.and b c), (K i).and b c, (K i).and (A.or a b) (A.or a c), (K i).or a b, (K i).or a c, L.or_and (h i a) (h i b) (h i c)));
    and_top = λ a. one (A.and a A.top) a (λ i. cc ((K i).and a A.top, (K i).top, L.and_top (h i a)));
    or_bottom = λ a. one (A.or a A.bottom) a (λ i. cc ((K i).or a A.bottom, (K i).bottom, L.or_bottom (h i a)));
    and_not = λ a. one (A.and a (A.not a)) A.bottom (λ i. cc ((K i).and a (A.not a), (K i).not a, (K i).bottom, L.and_not (h i a)));
    or_not = λ a. one (A.or a (A.not a)) A.top (λ i. cc ((K i).or a (A.not a), (K i).not a, (K i).top, L.or_not (h i a)));
  }
