-- The truth values yes and no keep the eight laws. Assumes nothing.
use Rattle.std.proofs.Common.{◌≡◌, Bool, true, false, not, ◌&&◌, ◌||◌, refl}
use Rattle.logic.specs.Algebra.{Algebra, Laws}

abbrev pub bool_algebra : Algebra Bool
bool_algebra = record { top = true; bottom = false; and = ◌&&◌; or = ◌||◌; not = not }

both_comm : (a b : Bool) → (a && b) ≡ (b && a)
both_comm true true = refl
both_comm true false = refl
both_comm false true = refl
both_comm false false = refl

either_comm : (a b : Bool) → (a || b) ≡ (b || a)
either_comm true true = refl
either_comm true false = refl
either_comm false true = refl
either_comm false false = refl

both_either : (a b c : Bool) → (a && (b || c)) ≡ ((a && b) || (a && c))
both_either true b c = refl
both_either false b c = refl

either_both : (a b c : Bool) → (a || (b && c)) ≡ ((a || b) && (a || c))
either_both true b c = refl
either_both false b c = refl

both_true : (a : Bool) → (a && true) ≡ a
both_true true = refl
both_true false = refl

either_false : (a : Bool) → (a || false) ≡ a
either_false true = refl
either_false false = refl

both_not : (a : Bool) → (a && not a) ≡ false
both_not true = refl
both_not false = refl

either_not : (a : Bool) → (a || not a) ≡ true
either_not true = refl
either_not false = refl

pub bool_laws : Laws bool_algebra
bool_laws = record {
  and_comm = both_comm;
  or_comm = either_comm;
  and_or = both_either;
  or_and = either_both;
  and_top = both_true;
  or_bottom = either_false;
  and_not = both_not;
  or_not = either_not;
}
