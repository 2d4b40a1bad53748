-- Tables: which bytes are one, and what they say. Assumes nothing.
use Rattle.std.specs.Prelude.{◌≡◌, ℕ, ◌+◌, ◌*◌, ◌<◌, ◌≤◌, Bool, true, false, not, List, [], ◌∷◌, length, take, drop, None, Option, ◌==◌, slice_index, nat_le}
use Rattle.fault.specs.declared.fault.Fault.{Fault}
use Rattle.fault.specs.declared.fault.Fault.TheVariants.{SizeOutOfRange, WrongCount, ElementOutOfRange, NotATruthValue}
use Rattle.logic.specs.Text.{names}
use Rattle.logic.specs.Structure.{Structure}
use Rattle.scale.specs.declared.flag.Flag.{Flag}
use Rattle.scale.specs.Flags.{flag}
use Rattle.std.proofs.lemmas.Bool.{leb-true, and_parts}
use Rattle.run.specs.Checks.{first_of, passed, is_sized}
use Rattle.run.specs.Layout.{entries, place0, place1, place2, all_below}
use Rattle.run.specs.Listed.{listed}

-- the first byte is the size
abbrev pub size_in : List ℕ → ℕ
size_in bytes = slice_index bytes 0

-- then come the entries of constants and functions
abbrev pub elements_in : List ℕ → List ℕ
elements_in bytes = take (entries (size_in bytes)) (drop 1 bytes)

-- and then those of predicates
abbrev pub truths_in : List ℕ → List ℕ
truths_in bytes = drop (1 + entries (size_in bytes)) bytes

-- there are bytes, the first is a size up to the most, the entries are counted, and those of constants and functions are
-- elements; and more
abbrev pub list_tests : ℕ → Bool → List ℕ → List (Bool × Fault) → List (Bool × Fault)
list_tests most counted bytes more =
    (not (length bytes == 0), WrongCount)
    ∷ (is_sized most (size_in bytes), SizeOutOfRange)
    ∷ (counted, WrongCount)
    ∷ (all_below (size_in bytes) (elements_in bytes), ElementOutOfRange)
    ∷ more

-- what lists have that pass
pub record ListsPass (most : ℕ) (counted : Bool) (bytes : List ℕ) : Type 0 where
  pub some : 1 ≤ size_in bytes
  pub few : size_in bytes ≤ most
  pub count : counted ≡ true
  pub below : all_below (size_in bytes) (elements_in bytes) ≡ true

pub lists_pass : (most : ℕ) (counted : Bool) (bytes : List ℕ) (more : List (Bool × Fault)) →
    first_of (list_tests most counted bytes more) ≡ None → ListsPass most counted bytes
lists_pass most counted bytes more h =
    let filled = passed (not (length bytes == 0)) WrongCount _ h in
    let sized = passed (is_sized most (size_in bytes)) SizeOutOfRange _ filled.1 in
    let count = passed counted WrongCount _ sized.1 in
    let below = passed (all_below (size_in bytes) (elements_in bytes)) ElementOutOfRange _ count.1 in
    let bounds = and_parts (nat_le 1 (size_in bytes)) (nat_le (size_in bytes) most) sized.0 in
    record {
      some = leb-true 1 (size_in bytes) bounds.0;
      few = leb-true (size_in bytes) most bounds.1;
      count = count.0;
      below = below.0;
    }

-- how many elements a table has at most
abbrev pub most_in_table : ℕ
most_in_table = 32

-- how many bytes a table of n elements has
abbrev pub table_length : ℕ → ℕ
table_length n = 17 + 16 * n + 16 * (n * n)

-- the bytes are as many as a table has
abbrev pub table_counted : List ℕ → Bool
table_counted bytes = length bytes == table_length (size_in bytes)

-- the entries of predicates are 0 or 1
abbrev pub truth_tests : List ℕ → List (Bool × Fault)
truth_tests bytes = (all_below 2 (truths_in bytes), NotATruthValue) ∷ []

-- what is wrong with the bytes of a table
abbrev pub table_fault : List ℕ → Option Fault
table_fault bytes = first_of (list_tests most_in_table (table_counted bytes) bytes (truth_tests bytes))

-- what a truth byte says: yes where it is 1
abbrev pub truth_of : ℕ → Flag
truth_of byte = flag (byte == 1)

-- what the bytes of a table mean
abbrev pub table_of : (bytes : List ℕ) → table_fault bytes ≡ None → Structure Flag
table_of bytes faultless =
    let pass = lists_pass most_in_table (table_counted bytes) bytes (truth_tests bytes) faultless in
    listed (flag false) truth_of (size_in bytes) (elements_in bytes) (truths_in bytes) pass.some pass.below

-- the size, the constants and the functions are what the bytes list, each at its place
pub record SaysElements {V : Type 0} (bytes : List ℕ) (M : Structure V) : Type 0 where
  pub size : M.size ≡ size_in bytes
  pub con : (d : ℕ) → d < names → M.con d ≡ slice_index bytes (1 + place0 d)
  pub fun1 : (d a : ℕ) → d < names → a < M.size → M.fun1 d a ≡ slice_index bytes (1 + place1 M.size d a)
  pub fun2 : (d a b : ℕ) → d < names → a < M.size → b < M.size → M.fun2 d a b ≡ slice_index bytes (1 + place2 M.size d a b)

-- each predicate has the value that the list gives at its place
pub record SaysTruths {V : Type 0} (truth : ℕ → V) (M : Structure V) : Type 0 where
  pub pred0 : (d : ℕ) → d < names → M.pred0 d ≡ truth (place0 d)
  pub pred1 : (d a : ℕ) → d < names → a < M.size → M.pred1 d a ≡ truth (place1 M.size d a)
  pub pred2 : (d a b : ℕ) → d < names → a < M.size → b < M.size → M.pred2 d a b ≡ truth (place2 M.size d a b)

-- what comes of making a run of bytes that are a table
pub record TableMade (bytes : List ℕ) (M : Structure Flag) : Type 0 where
  pub faultless : table_fault bytes ≡ None
  pub meaning : (none : table_fault bytes ≡ None) → M ≡ table_of bytes none
  pub elements : SaysElements bytes M
  pub truths : SaysTruths (λ i. truth_of (slice_index bytes (1 + entries (size_in bytes) + i))) M
