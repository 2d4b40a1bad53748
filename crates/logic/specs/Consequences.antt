-- What follows from the eight laws. Assumes nothing.
use Rattle.std.specs.Prelude.{◌≡◌, ◌↔◌}
use Rattle.logic.specs.Algebra.{Algebra, Judgeable, AtLeast}

-- what every algebra that keeps the laws has
pub record Consequences {V : Type 0} (A : Algebra V) : Type 0 where
  -- idempotence
  pub and_self : (a : V) → A.and a a ≡ a
  pub or_self : (a : V) → A.or a a ≡ a
  -- bounds
  pub and_bottom : (a : V) → A.and a A.bottom ≡ A.bottom
  pub or_top : (a : V) → A.or a A.top ≡ A.top
  -- absorption
  pub and_absorbs : (a b : V) → A.and a (A.or a b) ≡ a
  pub or_absorbs : (a b : V) → A.or a (A.and a b) ≡ a
  -- associativity
  pub and_assoc : (a b c : V) → A.and (A.and a b) c ≡ A.and a (A.and b c)
  pub or_assoc : (a b c : V) → A.or (A.or a b) c ≡ A.or a (A.or b c)
  -- a complement is the only one
  pub unique : (a b : V) → A.and a b ≡ A.bottom → A.or a b ≡ A.top → b ≡ A.not a
  -- double negation, and the bounds under negation
  pub not_not : (a : V) → A.not (A.not a) ≡ a
  pub not_top : A.not A.top ≡ A.bottom
  pub not_bottom : A.not A.bottom ≡ A.top
  -- De Morgan
  pub not_and : (a b : V) → A.not (A.and a b) ≡ A.or (A.not a) (A.not b)
  pub not_or : (a b : V) → A.not (A.or a b) ≡ A.and (A.not a) (A.not b)
  -- the order: reflexive, antisymmetric, transitive, between bottom and top
  pub at_least_self : (a : V) → AtLeast A a a
  pub at_least_antisym : (a b : V) → AtLeast A a b → AtLeast A b a → a ≡ b
  pub at_least_trans : (a b c : V) → AtLeast A a b → AtLeast A b c → AtLeast A a c
  pub at_least_bottom : (a : V) → AtLeast A a A.bottom
  pub top_at_least : (a : V) → AtLeast A A.top a
  -- `and` is the greatest value that both are at least, `or` the lowest that is at least both
  pub and_first : (a b : V) → AtLeast A a (A.and a b)
  pub and_second : (a b : V) → AtLeast A b (A.and a b)
  pub and_greatest : (a b c : V) → AtLeast A a c → AtLeast A b c → AtLeast A (A.and a b) c
  pub or_first : (a b : V) → AtLeast A (A.or a b) a
  pub or_second : (a b : V) → AtLeast A (A.or a b) b
  pub or_lowest : (a b c : V) → AtLeast A c a → AtLeast A c b → AtLeast A c (A.or a b)
  -- b is at least as true as a exactly where (a implies b) is top
  pub implication : (a b : V) → AtLeast A b a ↔ (A.or (A.not a) b ≡ A.top)
  -- what finding a value uses
  pub judgeable : Judgeable A
