-- Values in a run of three mileposts, worked out. Assumes nothing.
use Rattle.std.specs.Prelude.{◌≡◌, ℕ, true, false, List, codes}
use Rattle.std.proofs.Common.{lit≤}
use Rattle.logic.specs.Syntax.{Formula}
use Rattle.logic.specs.Structure.{Structure}
use Rattle.logic.specs.Reading.{reads, formula_of}
use Rattle.logic.specs.Weight.{weight}
use Rattle.scale.specs.declared.flag.Flag.{Flag}
use Rattle.scale.specs.Flags.{flag, flag_algebra}
use Rattle.run.specs.Mileposts.{mileposts}

-- three mileposts in a row
abbrev pub three_posts : Structure Flag
three_posts = mileposts 3 (lit≤ tt)

-- the bytes are read as a formula with this weight
abbrev pub Weighs : List ℕ → Flag → Type 0
Weighs bytes v = (a : Formula) × (formula_of bytes ≡ reads a) × (weight flag_algebra three_posts a ≡ v)

-- the worked values
pub record Examples : Type 0 where
  -- not every milepost comes before another one
  pub endless : Weighs (codes "Ax0Ex1r0(x0,x1)") (flag false)
  -- each comes before the next, unless it comes before none
  pub onward : Weighs (codes "Ax0(r0(x0,f0(x0))|-Ex1r0(x0,x1))") (flag true)
  -- what comes before one that comes before a third comes before the third
  pub transitive : Weighs (codes "((r0(x1,x4)&r0(x4,x2))>r0(x1,x2))") (flag true)
