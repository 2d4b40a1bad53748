-- What counting a judgement does to the counts; one that would pass the largest number stays there. Assumes nothing.
use Rattle.std.specs.Prelude.{◌≡◌, ℕ, ◌+◌, ◌-◌, ◌^◌, min, Bool, true, if◌then◌else◌, not, is_ok, Result}
use Rattle.fault.specs.declared.fault.Fault.{Fault}
use Rattle.sentences.specs.declared.judgement.Measures.{Measures}
use Rattle.sentences.specs.declared.counts.Counts.{Counts}

-- nothing was counted
abbrev pub none_counted : Counts
none_counted = record { sentences = 0; formulas = 0; refused = 0 }

-- one more where the flag says so, as far as the largest number
abbrev more : Bool → ℕ → ℕ
more one n = if one then min (n + 1) (2 ^ 64 - 1) else n

-- all are counted, and each with its kind
pub record Counted (before : Counts) (j : Result Measures Fault) (after : Counts) : Type 0 where
  pub all : after.sentences ≡ more true before.sentences
  pub formulas : after.formulas ≡ more (is_ok j) before.formulas
  pub refused : after.refused ≡ more (not (is_ok j)) before.refused
