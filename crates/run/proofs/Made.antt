-- What a run of well-formed bytes says. Assumes nothing.
use Rattle.std.proofs.Common.{◌≡◌, ℕ, ◌+◌, ◌*◌, ◌<◌, ◌≤◌, Bool, true, false, cond, not, eqb, List, ◌∷◌, length, get_or, take, drop, Some, None, sym, refl, ap, ◌∙◌, subst, ap₂, arith}
use Rattle.std.proofs.Math.Bridge.{le_prop}
use mathlib.Core.Bool.{Bool-set}
use Rattle.std.specs.Option.{option_map_or}
use Rattle.std.proofs.lemmas.Option.{slice_get-get_or}
use Rattle.std.proofs.lemmas.List.{get_or-take, get_or-drop, length-drop, drop-drop}
use Rattle.std.proofs.lemmas.Bool.{lt-ltb, eq-eqb, eqb-true, ne_eqb}
use Rattle.fault.specs.declared.fault.Fault.{Fault}
use Rattle.fault.specs.declared.fault.Fault.TheVariants.{SizeOutOfRange, WrongCount, ElementOutOfRange, NotATruthValue}
use Rattle.logic.specs.Text.{names}
use Rattle.scale.specs.Flags.{flag}
use Rattle.run.specs.Layout.{entries, place0, place1, place2, all_below}
use Rattle.run.specs.Listed.{said, listed}
use Rattle.run.specs.Checks.{first_of, is_sized}
use Rattle.run.specs.Tables.{size_in, elements_in, truths_in, list_tests, lists_pass, truth_of, table_length, table_counted, truth_tests, most_in_table, table_fault, table_of, SaysElements, SaysTruths, TableMade}
use Rattle.run.proofs.Places.{inside1_true, inside2_true, place0_lt, place1_lt, place2_lt}

module _ {T V : Type 0} (bottom : V) (says : T → V) where
  -- the same lists have the same structure
  pub listed_same : {n m : ℕ} {es xs : List ℕ} {ts ys : List T} (some : 1 ≤ n) (some' : 1 ≤ m)
      (below : all_below n es ≡ true) (below' : all_below m xs ≡ true) → n ≡ m → es ≡ xs → ts ≡ ys →
      listed bottom says n es ts some below ≡ listed bottom says m xs ys some' below'
  listed_same {n} {m} {es} {xs} {ts} {ys} some some' below below' e f g =
      let Same : ℕ → List ℕ → List T → Type 0 =
      λ k us vs. (a : 1 ≤ k) (b : all_below k us ≡ true) →
      listed bottom says n es ts some below ≡ listed bottom says k us vs a b in
      let here : Same n es ts = λ a b. ap₂ (listed bottom says n es ts) (le_prop some a) (Bool-set (all_below n es) true below b) in
      subst (λ k. Same k xs ys) e (subst (λ us. Same n us ys) f (subst (Same n es) g here)) some' below'

  module _ (bytes : List ℕ) (truths : List T) (some : 1 ≤ size_in bytes)
      (below : all_below (size_in bytes) (elements_in bytes) ≡ true) where
    abbrev n : ℕ
    n = size_in bytes

    -- an entry is the byte at its place
    entry_says : (i : ℕ) → i < entries n → get_or (elements_in bytes) i 0 ≡ get_or bytes (1 + i) 0
    entry_says i h = get_or-take (entries n) (drop 1 bytes) i 0 h ∙ get_or-drop 1 bytes i 0

    pub says_elements : SaysElements bytes (listed bottom says n (elements_in bytes) truths some below)
    says_elements =
        let element : ℕ → ℕ = λ i. get_or (elements_in bytes) i 0 in
        record {
          size = refl;
          con = λ d h. ap (λ t. cond t (element (place0 d)) 0) (lt-ltb d names h) ∙ entry_says (place0 d) (place0_lt n d h);
          fun1 = λ d a h k.
              ap (λ t. cond t (element (place1 n d a)) 0) (inside1_true n d a h k)
              ∙ entry_says (place1 n d a) (place1_lt n d a h k);
          fun2 = λ d a b h k l.
              ap (λ t. cond t (element (place2 n d a b)) 0) (inside2_true n d a b h k l)
              ∙ entry_says (place2 n d a b) (place2_lt n d a b h k l);
        }

    pub says_truths : (truth : ℕ → V) → ((i : ℕ) → i < entries n → said bottom says truths i ≡ truth i) →
        SaysTruths truth (listed bottom says n (elements_in bytes) truths some below)
    says_truths truth at =
        let here : ℕ → V = said bottom says truths in
        record {
          pred0 = λ d h. ap (λ t. cond t (here (place0 d)) bottom) (lt-ltb d names h) ∙ at (place0 d) (place0_lt n d h);
          pred1 = λ d a h k.
              ap (λ t. cond t (here (place1 n d a)) bottom) (inside1_true n d a h k) ∙ at (place1 n d a) (place1_lt n d a h k);
          pred2 = λ d a b h k l.
              ap (λ t. cond t (here (place2 n d a b)) bottom) (inside2_true n d a b h k l)
              ∙ at (place2 n d a b) (place2_lt n d a b h k l);
        }

  -- what a list says within its length
  pub said_at : (truths : List T) (i : ℕ) (d : T) → i < length truths → said bottom says truths i ≡ says (get_or truths i d)
  said_at truths i d h = ap (λ o. option_map_or says o bottom) (slice_get-get_or truths i d h)

-- the tests before one that passed do not decide
pub past : (a b c d : Bool) (e₁ e₂ e₃ e₄ : Fault) (more : List (Bool × Fault)) → a ≡ true → b ≡ true → c ≡ true → d ≡ true →
    first_of ((a, e₁) ∷ (b, e₂) ∷ (c, e₃) ∷ (d, e₄) ∷ more) ≡ first_of more
past a b c d e₁ e₂ e₃ e₄ more h k l m = rw (h, k, l, m) refl

-- nor do those of lists that pass
pub lists_past : (most : ℕ) (counted : Bool) (bytes : List ℕ) (more : List (Bool × Fault)) →
    not (eqb (length bytes) 0) ≡ true → is_sized most (size_in bytes) ≡ true → counted ≡ true →
    all_below (size_in bytes) (elements_in bytes) ≡ true → first_of (list_tests most counted bytes more) ≡ first_of more
lists_past most counted bytes more =
    past (not (eqb (length bytes) 0)) (is_sized most (size_in bytes)) counted (all_below (size_in bytes) (elements_in bytes))
    WrongCount SizeOutOfRange WrongCount ElementOutOfRange more

-- the published number of bytes
pub table_length_lem : (n count : ℕ) → count ≡ entries n → 1 + count + count ≡ table_length n
table_length_lem n count h = omega arith

-- the bytes of a table say what they list
pub table_made : (bytes : List ℕ) (faultless : table_fault bytes ≡ None) → TableMade bytes (table_of bytes faultless)
table_made bytes faultless =
    let n = size_in bytes in
    let pass = lists_pass most_in_table (table_counted bytes) bytes (truth_tests bytes) faultless in
    let long : length bytes ≡ table_length n = eqb-true (length bytes) (table_length n) pass.count in
    record {
      faultless = faultless;
      meaning = λ none.
          let again = lists_pass most_in_table (table_counted bytes) bytes (truth_tests bytes) none in
          listed_same (flag false) truth_of pass.some again.some pass.below again.below refl refl refl;
      elements = says_elements (flag false) truth_of bytes (truths_in bytes) pass.some pass.below;
      truths =
          says_truths (flag false) truth_of bytes (truths_in bytes) pass.some pass.below
          (λ i. truth_of (get_or bytes (1 + entries n + i) 0))
          (λ i h.
          let long_rest = length-drop (1 + entries n) bytes in
          said_at (flag false) truth_of (truths_in bytes) i 0 (omega (arith, table_length_lem n (entries n) refl))
          ∙ ap truth_of (get_or-drop (1 + entries n) bytes i 0));
    }

-- a list with a first number is not empty
pub filled : (x : ℕ) (xs : List ℕ) → not (eqb (length (x ∷ xs)) 0) ≡ true
filled x xs = ap not (ne_eqb (length (x ∷ xs)) 0 (λ e. omega arith))

-- so does a run of the parts of bytes that pass each test
pub table_new : (bytes lists list truths : List ℕ) (m count : ℕ) → bytes ≡ m ∷ lists → is_sized most_in_table m ≡ true →
    count ≡ entries m → length lists ≡ 2 * count → list ≡ take count lists → truths ≡ drop count lists →
    all_below m list ≡ true → all_below 2 truths ≡ true → (some : 1 ≤ m) (below : all_below m list ≡ true) →
    TableMade bytes (listed (flag false) truth_of m list truths some below)
table_new bytes lists list truths m count split sized counted long front back inside small some below =
    let table = m ∷ lists in
    let elements : list ≡ elements_in table = front ∙ ap (λ k. take k lists) counted in
    let rest : truths ≡ truths_in table = back ∙ ap (λ k. drop k lists) counted ∙ drop-drop (entries m) 1 table in
    let faultless : table_fault table ≡ None =
    lists_past most_in_table (table_counted table) table (truth_tests table) (filled m lists) sized
    (eq-eqb (length table) (table_length m) (omega (arith, table_length_lem m count counted)))
    (ap (all_below m) (sym elements) ∙ inside)
    ∙ ap (λ t. cond t None (Some NotATruthValue)) (ap (all_below 2) (sym rest) ∙ small) in
    let pass = lists_pass most_in_table (table_counted table) table (truth_tests table) faultless in
    let same = listed_same (flag false) truth_of pass.some some pass.below below refl (sym elements) (sym rest) in
    subst (λ bs. TableMade bs (listed (flag false) truth_of m list truths some below)) (sym split)
    (subst (TableMade table) {x = table_of table faultless} same (table_made table faultless))
