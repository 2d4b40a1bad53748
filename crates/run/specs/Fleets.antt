-- Fleets: sixty-four runs that share their elements, with a bit of each word for each run. Assumes nothing.
use Rattle.std.specs.Prelude.{◌≡◌, ℕ, ◌+◌, ◌%◌, ◌^◌, ◌<◌, Bool, cond, ◌&&◌, List, [], ◌++◌, map, length, None, Option, ◌==◌, slice_index}
use Rattle.std.proofs.Common.{pow_pos}
use Rattle.std.proofs.lemmas.Nat.{mod_below}
use Rattle.fault.specs.declared.fault.Fault.{Fault}
use Rattle.logic.specs.Syntax.{Formula}
use Rattle.logic.specs.Structure.{Structure}
use Rattle.logic.specs.Value.{value as value_in}
use Rattle.logic.specs.Weight.{weight as weight_in}
use Rattle.scale.specs.declared.word.Word.{Word}
use Rattle.scale.specs.Flags.{flag_algebra}
use Rattle.scale.specs.Words.{word, word_algebra, bit_in, flag_in}
use Rattle.run.specs.Layout.{entries}
use Rattle.run.specs.Listed.{listed}
use Rattle.run.specs.Checks.{first_of}
use Rattle.run.specs.Tables.{list_tests, lists_pass, size_in, elements_in, table_fault, table_of, SaysElements, SaysTruths}

-- how many elements a fleet has at most
abbrev pub most_in_fleet : ℕ
most_in_fleet = 16

-- the bytes before the predicates are as many as a table has, and so are the words
abbrev pub fleet_counted : List ℕ → List ℕ → Bool
fleet_counted bytes words = length bytes == 1 + entries (size_in bytes) && (length words == entries (size_in bytes))

-- what is wrong with the bytes and words of a fleet
abbrev pub fleet_fault : List ℕ → List ℕ → Option Fault
fleet_fault bytes words = first_of (list_tests most_in_fleet (fleet_counted bytes words) bytes [])

-- the word with the lowest 64 bits of a number: of a `u64`, all of them
abbrev pub word_of : ℕ → Word
word_of w = word (w % 2 ^ 64) (mod_below w (2 ^ 64) (pow_pos 64))

-- what the bytes and words of a fleet mean
abbrev pub fleet_of : (bytes words : List ℕ) → fleet_fault bytes words ≡ None → Structure Word
fleet_of bytes words faultless =
    let pass = lists_pass most_in_fleet (fleet_counted bytes words) bytes [] faultless in
    listed word_algebra.bottom word_of (size_in bytes) (elements_in bytes) words pass.some pass.below

-- the table of run k: the fleet's bytes, and bit k of each word
abbrev pub run_bytes : ℕ → List ℕ → List ℕ → List ℕ
run_bytes k bytes words = bytes ++ map (λ w. cond (bit_in k (word_of w)) 1 0) words

-- run k of a fleet is a table, and bit k of every value in the fleet is the value in that table
pub record IsRun (k : ℕ) (bytes words : List ℕ) (M : Structure Word) : Type 0 where
  pub faultless : table_fault (run_bytes k bytes words) ≡ None
  pub value : (ρ : ℕ → ℕ) (a : Formula) →
      value_in flag_algebra (table_of (run_bytes k bytes words) faultless) ρ a ≡ flag_in k (value_in word_algebra M ρ a)
  pub weight : (a : Formula) →
      weight_in flag_algebra (table_of (run_bytes k bytes words) faultless) a ≡ flag_in k (weight_in word_algebra M a)

-- what comes of making a run of bytes and words that are a fleet
pub record FleetMade (bytes words : List ℕ) (M : Structure Word) : Type 0 where
  pub faultless : fleet_fault bytes words ≡ None
  pub meaning : (none : fleet_fault bytes words ≡ None) → M ≡ fleet_of bytes words none
  pub elements : SaysElements bytes M
  pub truths : SaysTruths (λ i. word_of (slice_index words i)) M
  pub runs : (k : ℕ) → k < 64 → IsRun k bytes words M
