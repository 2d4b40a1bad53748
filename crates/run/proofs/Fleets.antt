-- What a fleet of well-formed bytes and words says, and that its runs are tables. Assumes nothing.
use Rattle.std.proofs.Common.{◌≡◌, ℕ, ◌+◌, ◌^◌, ◌<◌, ◌≤◌, Bool, true, false, cond, not, ◌&&◌, eqb, ltb, List, [], ◌∷◌, map, length, get_or, take, drop, Some, None, Option, slice_get, sym, refl, ap, ◌∙◌, subst, ap₂, mod-eq_of_lt, arith}
use Rattle.std.specs.Option.{option_map, option_map_or}
use Rattle.std.proofs.lemmas.Option.{slice_get-map}
use Rattle.std.proofs.lemmas.List.{get_or_append_left, length-append, length-map, length-drop, drop-append-le, take-append-le, drop_at, take_all}
use Rattle.std.proofs.lemmas.Bool.{eq-eqb, eqb-true, ne_eqb, le-leb, and_parts}
use Rattle.fault.specs.declared.fault.Fault.TheVariants.{NotATruthValue}
use Rattle.logic.proofs.Bits.{bit_zero}
use Rattle.logic.proofs.Images.{Image, value_image, weight_image}
use Rattle.scale.specs.declared.flag.Flag.{Flag}
use Rattle.scale.specs.declared.word.Word.{Word}
use Rattle.scale.specs.Flags.{flag}
use Rattle.scale.specs.Words.{word_algebra, bit_in, flag_in}
use Rattle.scale.specs.WordsLemmas.{word_path, bit_by_bit}
use Rattle.run.specs.Inside.{inside0, inside1, inside2}
use Rattle.run.specs.Layout.{entries, place0, place1, place2, all_below}
use Rattle.run.specs.Listed.{said, listed}
use Rattle.run.specs.Checks.{is_sized}
use Rattle.run.specs.Tables.{size_in, elements_in, truths_in, ListsPass, lists_pass, truth_tests, truth_of, table_length, table_counted, most_in_table, table_fault}
use Rattle.run.specs.Fleets.{most_in_fleet, word_of, fleet_counted, fleet_fault, fleet_of, run_bytes, IsRun, FleetMade}
use Rattle.run.proofs.Made.{filled, lists_past, listed_same, says_elements, says_truths, said_at, table_length_lem}

-- a word with these bits is the one
pub word_of_lem : (r : Word) (w : ℕ) → r.bits ≡ w → r ≡ word_of w
word_of_lem r w h = word_path r (word_of w) (h ∙ sym (mod-eq_of_lt (subst (λ n. n < 2 ^ 64) h r.small)))

-- the truth byte that a bit gives
abbrev byte_of : ℕ → ℕ → ℕ
byte_of k w = cond (bit_in k (word_of w)) 1 0

truth_bit : (b : Bool) → truth_of (cond b 1 0) ≡ flag b
truth_bit true = refl
truth_bit false = refl

bit_small : (b : Bool) → ltb (cond b 1 0) 2 ≡ true
bit_small true = refl
bit_small false = refl

bits_small : (k : ℕ) (words : List ℕ) → all_below 2 (map (byte_of k) words) ≡ true
bits_small k [] = refl
bits_small k (w ∷ words) = ap₂ ◌&&◌ (bit_small (bit_in k (word_of w))) (bits_small k words)

-- bit k of what a list of words says at a place is what their bits k say there
truth_at : (k : ℕ) (words : List ℕ) (i : ℕ) →
    said (flag false) truth_of (map (byte_of k) words) i ≡ flag_in k (said word_algebra.bottom word_of words i)
truth_at k words i = ap (λ o. option_map_or truth_of o (flag false)) (slice_get-map (byte_of k) words i) ∙ one (slice_get words i)
  where
    one : (o : Option ℕ) →
        option_map_or truth_of (option_map (byte_of k) o) (flag false) ≡ flag_in k (option_map_or word_of o word_algebra.bottom)
    one None = ap flag (sym (bit_zero k))
    one (Some w) = truth_bit (bit_in k (word_of w))

-- the counts of a fleet
counted : (bytes words : List ℕ) → fleet_counted bytes words ≡ true →
    (length bytes ≡ 1 + entries (size_in bytes)) × (length words ≡ entries (size_in bytes))
counted bytes words h =
    let p = and_parts (eqb (length bytes) (1 + entries (size_in bytes))) (eqb (length words) (entries (size_in bytes))) h in
    (eqb-true (length bytes) (1 + entries (size_in bytes)) p.0, eqb-true (length words) (entries (size_in bytes)) p.1)

either : {V W : Type 0} (h : V → W) (t : Bool) (x y : W) (v w : V) → x ≡ h v → y ≡ h w → cond t x y ≡ h (cond t v w)
either h true x y v w p q = p
either h false x y v w p q = q

-- a table with bit k of each word is the image of the fleet
run_image : (k n : ℕ) (elements words : List ℕ) (some : 1 ≤ n) (below : all_below n elements ≡ true) →
    Image (flag_in k) (listed word_algebra.bottom word_of n elements words some below)
    (listed (flag false) truth_of n elements (map (byte_of k) words) some below)
run_image k n elements words some below =
    let in_table : ℕ → Flag = said (flag false) truth_of (map (byte_of k) words) in
    let in_fleet : ℕ → Word = said word_algebra.bottom word_of words in
    let at : (t : Bool) (i : ℕ) → cond t (in_table i) (flag false) ≡ flag_in k (cond t (in_fleet i) word_algebra.bottom) =
    λ t i.
    let no = ap flag (sym (bit_zero k)) in
    either (flag_in k) t (in_table i) (flag false) (in_fleet i) word_algebra.bottom (truth_at k words i) no in
    record {
      size = refl;
      con = λ c. refl;
      fun1 = λ f a. refl;
      fun2 = λ f a b. refl;
      pred0 = λ p. at (inside0 p) (place0 p);
      pred1 = λ p a. at (inside1 n p a) (place1 n p a);
      pred2 = λ p a b. at (inside2 n p a b) (place2 n p a b);
    }

module _ (bytes words : List ℕ) (faultless : fleet_fault bytes words ≡ None) (k : ℕ) where
  abbrev bits : List ℕ
  bits = map (byte_of k) words

  abbrev whole : List ℕ
  whole = run_bytes k bytes words

  abbrev pass : ListsPass most_in_fleet (fleet_counted bytes words) bytes
  pass = lists_pass most_in_fleet (fleet_counted bytes words) bytes [] faultless

  long : length bytes ≡ 1 + entries (size_in bytes)
  long = (counted bytes words pass.count).0

  run_size : size_in whole ≡ size_in bytes
  run_size = let l = long in get_or_append_left bytes bits 0 0 (omega arith)

  run_elements : elements_in whole ≡ elements_in bytes
  run_elements =
      let l = long in
      ap (λ n. take (entries n) (drop 1 whole)) run_size
      ∙ ap (take (entries (size_in bytes))) (drop-append-le 1 bytes bits (omega arith))
      ∙ take-append-le (entries (size_in bytes)) (drop 1 bytes) bits (omega (arith, length-drop 1 bytes))

  run_truths : truths_in whole ≡ bits
  run_truths = ap (λ n. drop (1 + entries n) whole) run_size ∙ drop_at bytes bits (1 + entries (size_in bytes)) long

  run_length : length whole ≡ table_length (size_in whole)
  run_length =
      length-append bytes bits ∙ ap₂ ◌+◌ long (length-map words (byte_of k) ∙ (counted bytes words pass.count).1)
      ∙ table_length_lem (size_in bytes) (entries (size_in bytes)) refl ∙ ap table_length (sym run_size)

  run_faultless : table_fault whole ≡ None
  run_faultless =
      let n = size_in bytes in
      lists_past most_in_table (table_counted whole) whole (truth_tests whole)
      (ap not (ne_eqb (length whole) 0 (λ e. let l = run_length in omega arith)))
      (ap (is_sized most_in_table) run_size
      ∙ ap₂ ◌&&◌ (le-leb 1 n pass.some) (le-leb n most_in_table (let f = pass.few in omega arith)))
      (eq-eqb (length whole) (table_length (size_in whole)) run_length)
      (ap₂ all_below run_size run_elements ∙ pass.below)
      ∙ ap (λ t. cond t None (Some NotATruthValue)) (ap (all_below 2) run_truths ∙ bits_small k words)

  is_run : k < 64 → IsRun k bytes words (fleet_of bytes words faultless)
  is_run l =
      let K = bit_by_bit k l in
      let table = lists_pass most_in_table (table_counted whole) whole (truth_tests whole) run_faultless in
      let same =
      listed_same (flag false) truth_of pass.some table.some pass.below table.below (sym run_size) (sym run_elements) (sym run_truths) in
      let image = run_image k (size_in bytes) (elements_in bytes) words pass.some pass.below in
      let I = subst (Image (flag_in k) (fleet_of bytes words faultless)) same image in
      record {
        faultless = run_faultless;
        value = value_image K I;
        weight = weight_image K I;
      }

-- the bytes and words of a fleet say what they list
fleet_made : (bytes words : List ℕ) (faultless : fleet_fault bytes words ≡ None) →
    FleetMade bytes words (fleet_of bytes words faultless)
fleet_made bytes words faultless =
    let pass = lists_pass most_in_fleet (fleet_counted bytes words) bytes [] faultless in
    let wide = (counted bytes words pass.count).1 in
    record {
      faultless = faultless;
      meaning = λ none.
          let again = lists_pass most_in_fleet (fleet_counted bytes words) bytes [] none in
          listed_same word_algebra.bottom word_of pass.some again.some pass.below again.below refl refl refl;
      elements = says_elements word_algebra.bottom word_of bytes words pass.some pass.below;
      truths =
          says_truths word_algebra.bottom word_of bytes words pass.some pass.below (λ i. word_of (get_or words i 0))
          (λ i h. said_at word_algebra.bottom word_of words i 0 (omega (arith, wide, h)));
      runs = is_run bytes words faultless;
    }

-- so does a run of the list in bytes that pass each test, and of the words
pub fleet_new : (bytes list words : List ℕ) (m count : ℕ) → bytes ≡ m ∷ list → is_sized most_in_fleet m ≡ true →
    count ≡ entries m → length list ≡ count → length words ≡ count → all_below m list ≡ true →
    (some : 1 ≤ m) (below : all_below m list ≡ true) →
    FleetMade bytes words (listed word_algebra.bottom word_of m list words some below)
fleet_new bytes list words m count split sized many listed_long wide inside some below =
    let fleet = m ∷ list in
    let elements : elements_in fleet ≡ list = take_all (entries m) list (omega arith) in
    let faultless : fleet_fault fleet words ≡ None =
    lists_past most_in_fleet (fleet_counted fleet words) fleet [] (filled m list) sized
    (ap₂ ◌&&◌ (eq-eqb (length fleet) (1 + entries m) (omega arith)) (eq-eqb (length words) (entries m) (wide ∙ many)))
    (ap (all_below m) elements ∙ inside) in
    let pass = lists_pass most_in_fleet (fleet_counted fleet words) fleet [] faultless in
    let same = listed_same word_algebra.bottom word_of pass.some some pass.below below refl elements refl in
    subst (λ bs. FleetMade bs words (listed word_algebra.bottom word_of m list words some below)) (sym split)
    (subst (FleetMade fleet words) {x = fleet_of fleet words faultless} same (fleet_made fleet words faultless))
