-- Algebras of truth values, and Huntington's eight laws. Assumes nothing.
use Rattle.std.specs.Prelude.{◌≡◌}

-- two values and three operations on values
pub record Algebra (V : Type 0) : Type 0 where
  pub top : V
  pub bottom : V
  pub and : V → V → V
  pub or : V → V → V
  pub not : V → V

-- the eight laws, for all values
pub record Laws {V : Type 0} (A : Algebra V) : Type 0 where
  pub and_comm : (a b : V) → A.and a b ≡ A.and b a
  pub or_comm : (a b : V) → A.or a b ≡ A.or b a
  pub and_or : (a b c : V) → A.and a (A.or b c) ≡ A.or (A.and a b) (A.and a c)
  pub or_and : (a b c : V) → A.or a (A.and b c) ≡ A.and (A.or a b) (A.or a c)
  pub and_top : (a : V) → A.and a A.top ≡ a
  pub or_bottom : (a : V) → A.or a A.bottom ≡ a
  pub and_not : (a : V) → A.and a (A.not a) ≡ A.bottom
  pub or_not : (a : V) → A.or a (A.not a) ≡ A.top

-- what finding a value uses of an algebra, less than the laws
pub record Judgeable {V : Type 0} (A : Algebra V) : Type 0 where
  -- top adds nothing to an `and`, nor does the same value a second time
  pub top_and : (a : V) → A.and A.top a ≡ a
  pub and_self : (a : V) → A.and a a ≡ a
  -- `or` leaves top as it is, and `and` leaves a value whose `not` is top
  pub top_or : (a : V) → A.or A.top a ≡ A.top
  pub and_settled : (a b : V) → A.not a ≡ A.top → A.and a b ≡ a

module _ {V : Type 0} (A : Algebra V) where
  -- a is at least as true as b
  abbrev pub AtLeast : V → V → Type 0
  AtLeast a b = A.and a b ≡ b

-- the map from one algebra to another goes along with the operations
pub record Keeps {V W : Type 0} (A : Algebra V) (B : Algebra W) (h : V → W) : Type 0 where
  pub top : h A.top ≡ B.top
  pub bottom : h A.bottom ≡ B.bottom
  pub and : (a b : V) → h (A.and a b) ≡ B.and (h a) (h b)
  pub or : (a b : V) → h (A.or a b) ≡ B.or (h a) (h b)
  pub not : (a : V) → h (A.not a) ≡ B.not (h a)
