-- Worked examples of reading. Assumes nothing.
use Rattle.std.specs.Prelude.{◌≡◌, ℕ, zero, suc, [], ◌++◌, replicate, codes}
use Rattle.logic.specs.Syntax.{variable, pred0, pred1, Formula, negation}
use Rattle.logic.specs.Signs.{'-'}
use Rattle.logic.specs.Reading.{not_allowed, ends_early, after_end, too_deep, reads, faulty, formula_of}

-- the formula with so many denials before it
abbrev pub denied : ℕ → Formula → Formula
denied zero a = a
denied (suc n) a = negation (denied n a)

pub record Examples : Type 0 where
  pub nothing : formula_of [] ≡ faulty ends_early 0
  pub digit_eight : formula_of (codes "q0(x8)") ≡ faulty not_allowed 4
  pub behind : formula_of (codes "q0(c0)p") ≡ faulty after_end 6
  pub level_24 : formula_of (replicate 23 '-' ++ codes "p0") ≡ reads (denied 23 (pred0 0))
  pub level_25 : formula_of (replicate 24 '-' ++ codes "p0") ≡ faulty too_deep 24
  pub variable_seven : formula_of (codes "q1(x7)") ≡ reads (pred1 1 (variable 7))
