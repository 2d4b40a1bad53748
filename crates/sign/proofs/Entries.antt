-- A table that passes the test has the class of each byte at its place. Assumes nothing.
use Rattle.std.proofs.Common.{◌≡◌, ℕ, zero, suc, ◌+◌, ◌<◌, Bool, true, false, ◌&&◌, T, List, [], ◌∷◌, length, get_or, sym, ap, ◌∙◌, le_of_suc-le-suc, not-suc-le-zero, add-zero, add-suc, suc-add, zero-add}
use Rattle.logic.specs.Class.{class_of, is}
use Rattle.logic.proofs.Classes.{same_class}
use Rattle.sign.specs.declared.class.Class.{Class}
use Rattle.sign.specs.declared.class.Class.TheVariants.{None}
use Rattle.sign.specs.Table.{class, follows}

both : (a b : Bool) → T (a && b) → T a × T b
both true b t = (tt, t)
both false b t = absurd t

from : (xs : List Class) (i : ℕ) → T (follows i xs) → (k : ℕ) → k < length xs → class (get_or xs k None) ≡ class_of (i + k)
from [] i t k h = absurd (not-suc-le-zero h)
from (x ∷ xs) i t zero h = rw add-zero (same_class (class x) (class_of i) (both (is (class x) (class_of i)) (follows (suc i) xs) t).0)
from (x ∷ xs) i t (suc k) h =
    from xs (suc i) (both (is (class x) (class_of i)) (follows (suc i) xs) t).1 k (le_of_suc-le-suc h) ∙ ap class_of (suc-add i k ∙ sym (add-suc i k))

pub holds : (xs : List Class) → T (follows 0 xs) → (k : ℕ) → k < length xs → class (get_or xs k None) ≡ class_of k
holds xs t k h = from xs 0 t k h ∙ ap class_of (zero-add k)
