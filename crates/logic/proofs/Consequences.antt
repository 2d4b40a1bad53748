-- What follows from the eight laws, put together. Assumes nothing.
use Rattle.std.proofs.Common.{sym, ◌∙◌}
use Rattle.logic.specs.Algebra.{Algebra, Laws}
use Rattle.logic.specs.Consequences.{Consequences}
use Rattle.logic.proofs.Boolean as boolean
use Rattle.logic.proofs.Boolean.{dual}
use Rattle.logic.proofs.Order as order

module _ {V : Type 0} {A : Algebra V} (L : Laws A) where
  pub consequences : Consequences A
  consequences = record {
    and_self = boolean.and_self L;
    or_self = boolean.or_self L;
    and_bottom = boolean.and_bottom L;
    or_top = boolean.or_top L;
    and_absorbs = boolean.and_absorbs L;
    or_absorbs = boolean.or_absorbs L;
    and_assoc = boolean.and_assoc L;
    or_assoc = boolean.or_assoc L;
    unique = boolean.unique L;
    not_not = boolean.not_not L;
    not_top = boolean.not_top L;
    not_bottom = boolean.not_top (dual L);
    not_and = boolean.not_and L;
    not_or = boolean.not_or L;
    at_least_self = boolean.and_self L;
    at_least_antisym = λ a b h k. sym k ∙ L.and_comm b a ∙ h;
    at_least_trans = order.least_trans L;
    at_least_bottom = order.least_bottom L;
    top_at_least = order.top_least L;
    and_first = order.least_first L;
    and_second = order.least_second L;
    and_greatest = order.least_both L;
    or_first = λ a b. order.or_least_first L a b a (boolean.and_self L a);
    or_second = order.or_least_second L;
    or_lowest = order.least_or L;
    implication = λ a b. (
      λ h. boolean.le_top L a b (L.and_comm a b ∙ h),
      λ h. L.and_comm b a ∙ boolean.top_le L a b h,
    );
    judgeable = boolean.judgeable L;
  }
