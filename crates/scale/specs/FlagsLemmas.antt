-- Flags keep the laws that yes and no keep. Assumes nothing.
use Rattle.std.proofs.Common.{ap}
use Rattle.std.specs.Prelude.{Bool, refl}
use Rattle.logic.specs.Algebra.{Laws, Keeps}
use Rattle.logic.proofs.Bools.{bool_algebra, bool_laws}
use Rattle.logic.proofs.Images.{laws_image}
use Rattle.scale.specs.declared.flag.Flag.{Flag}
use Rattle.scale.specs.Flags.{flag, flag_algebra}

abbrev value_of : Flag → Bool
value_of a = a.value

value_keeps : Keeps flag_algebra bool_algebra value_of
value_keeps = record { top = refl; bottom = refl; and = λ a b. refl; or = λ a b. refl; not = λ a. refl }

pub flag_laws : Laws flag_algebra
flag_laws = laws_image {I = Unit {0}} (λ _. value_of) (λ _. value_keeps) bool_laws (λ a b h. ap flag (h tt))
