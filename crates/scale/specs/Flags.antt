-- The algebra of flags. Assumes nothing.
use Rattle.std.specs.Prelude.{Bool, true, false, not, ◌&&◌, ◌||◌}
use Rattle.logic.specs.Algebra.{Algebra}
use Rattle.scale.specs.declared.flag.Flag.{Flag}

-- the flag of a truth value
abbrev pub flag : Bool → Flag
flag b = record { value = b }

-- the operations on yes and no
abbrev pub flag_algebra : Algebra Flag
flag_algebra = record {
  top = flag true;
  bottom = flag false;
  and = λ a b. flag (a.value && b.value);
  or = λ a b. flag (a.value || b.value);
  not = λ a. flag (not a.value);
}
