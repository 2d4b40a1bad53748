-- What follows from Huntington's laws alone. Assumes nothing.
use Rattle.std.proofs.Common.{◌≡◌, sym}
use Rattle.logic.specs.Algebra.{Algebra, Laws, Judgeable}

-- the laws are their own dual
abbrev pub turned : {V : Type 0} → Algebra V → Algebra V
turned A = record { top = A.bottom; bottom = A.top; and = A.or; or = A.and; not = A.not }

pub dual : {V : Type 0} {A : Algebra V} → Laws A → Laws (turned A)
dual L = record {
  and_comm = L.or_comm;
  or_comm = L.and_comm;
  and_or = L.or_and;
  or_and = L.and_or;
  and_top = L.or_bottom;
  or_bottom = L.and_top;
  and_not = L.or_not;
  or_not = L.and_not;
}

module _ {V : Type 0} {A : Algebra V} (L : Laws A) where
  open A use {top, bottom, and, or, not}

  pub and_self : (a : V) → and a a ≡ a
  and_self a = cc (L.and_top a, L.or_not a, L.and_or a a (not a), L.and_not a, L.or_bottom (and a a))

  pub and_bottom : (a : V) → and a bottom ≡ bottom
  and_bottom a = cc (L.or_bottom (and a bottom), L.and_not a, L.and_or a bottom (not a), L.or_comm bottom (not a), L.or_bottom (not a))

module _ {V : Type 0} {A : Algebra V} (L : Laws A) where
  open A use {top, bottom, and, or, not}

  pub or_self : (a : V) → or a a ≡ a
  or_self = and_self (dual L)

  pub or_top : (a : V) → or a top ≡ top
  or_top = and_bottom (dual L)

  -- absorption
  pub or_absorbs : (a b : V) → or a (and a b) ≡ a
  or_absorbs a b = cc (L.and_top a, L.and_or a top b, L.or_comm top b, or_top b)

module _ {V : Type 0} {A : Algebra V} (L : Laws A) where
  open A use {top, bottom, and, or, not}

  pub and_absorbs : (a b : V) → and a (or a b) ≡ a
  and_absorbs = or_absorbs (dual L)

  -- two values that agree on a part and outside it are one
  pub agree : (a x y : V) → and a x ≡ and a y → and (not a) x ≡ and (not a) y → x ≡ y
  agree a x y on off =
      cc (
        L.and_top x,
        L.and_top y,
        L.or_not a,
        L.and_or x a (not a),
        L.and_or y a (not a),
        L.and_comm x a,
        L.and_comm y a,
        L.and_comm x (not a),
        L.and_comm y (not a),
      )

  -- outside a, a adds nothing
  outside : (a b : V) → and (not a) (or a b) ≡ and (not a) b
  outside a b = cc (L.and_or (not a) a b, L.and_comm (not a) a, L.and_not a, L.or_comm bottom (and (not a) b), L.or_bottom (and (not a) b))

  pub or_assoc : (a b c : V) → or (or a b) c ≡ or a (or b c)
  or_assoc a b c =
      agree a (or (or a b) c) (or a (or b c))
      (cc (L.and_or a (or a b) c, and_absorbs a b, or_absorbs L a c, and_absorbs a (or b c)))
      (cc (L.and_or (not a) (or a b) c, outside a b, L.and_or (not a) b c, outside a (or b c)))

  -- a complement is the only one
  pub unique : (a x : V) → and a x ≡ bottom → or a x ≡ top → x ≡ not a
  unique a x on off =
      cc (
        L.and_top x,
        L.or_not a,
        L.and_or x a (not a),
        L.and_comm x a,
        L.and_not a,
        L.and_comm x (not a),
        L.and_comm a (not a),
        L.and_or (not a) a x,
        L.and_top (not a),
      )

  pub not_not : (a : V) → not (not a) ≡ a
  not_not a = sym (unique (not a) a (cc (L.and_comm (not a) a, L.and_not a)) (cc (L.or_comm (not a) a, L.or_not a)))

module _ {V : Type 0} {A : Algebra V} (L : Laws A) where
  open A use {top, bottom, and, or, not}

  pub and_assoc : (a b c : V) → and (and a b) c ≡ and a (and b c)
  and_assoc = or_assoc (dual L)

  meets : (a b : V) → and (and a b) (or (not a) (not b)) ≡ bottom
  meets a b =
      cc (
        L.and_or (and a b) (not a) (not b),
        and_assoc a b (not b),
        L.and_not b,
        and_bottom L a,
        L.and_comm a b,
        and_assoc b a (not a),
        L.and_not a,
        and_bottom L b,
        L.or_bottom bottom,
      )

  joins : (a b : V) → or (and a b) (or (not a) (not b)) ≡ top
  joins a b =
      cc (
        L.or_comm (and a b) (or (not a) (not b)),
        L.or_and (or (not a) (not b)) a b,
        L.or_comm (or (not a) (not b)) a,
        or_assoc L a (not a) (not b),
        L.or_not a,
        L.or_comm top (not b),
        or_top L (not b),
        or_assoc L (not a) (not b) b,
        L.or_comm (not b) b,
        L.or_not b,
        or_top L (not a),
        L.and_top top,
      )

  -- De Morgan
  pub not_and : (a b : V) → not (and a b) ≡ or (not a) (not b)
  not_and a b = sym (unique L (and a b) (or (not a) (not b)) (meets a b) (joins a b))

module _ {V : Type 0} {A : Algebra V} (L : Laws A) where
  open A use {top, bottom, and, or, not}

  pub not_or : (a b : V) → not (or a b) ≡ and (not a) (not b)
  not_or = not_and (dual L)

  pub not_top : not top ≡ bottom
  not_top = sym (unique L top bottom (and_bottom L top) (L.or_bottom top))

  -- a ≤ b exactly when -a | b is top
  pub le_top : (a b : V) → and a b ≡ a → or (not a) b ≡ top
  le_top a b h = cc (L.or_not a, L.or_comm a (not a), L.or_and (not a) a b, L.and_top (or (not a) b), L.and_comm top (or (not a) b))

  pub top_le : (a b : V) → or (not a) b ≡ top → and a b ≡ a
  top_le a b h = cc (L.and_top a, L.and_or a (not a) b, L.and_not a, L.or_comm bottom (and a b), L.or_bottom (and a b))

  pub judgeable : Judgeable A
  judgeable = record {
    top_and = λ a. cc (L.and_comm top a, L.and_top a);
    and_self = and_self L;
    top_or = λ a. cc (L.or_comm top a, or_top L a);
    and_settled = λ a b h. cc (not_not L a, not_top, L.and_comm bottom b, and_bottom L b, h);
  }
