-- The structure that two lists give: elements for constants and functions, values for predicates. Assumes nothing.
use Rattle.std.specs.Prelude.{◌≡◌, ℕ, zero, suc, ◌<◌, ◌≤◌, true, if◌then◌else◌, List, [], ◌∷◌, slice_index, slice_get, nat_lt}
use Rattle.std.specs.Option.{option_map_or}
use Rattle.std.proofs.lemmas.Bool.{ltb-true, and_parts}
use Rattle.logic.specs.Structure.{Structure}
use Rattle.run.specs.Inside.{inside0, inside1, inside2, cond_lt}
use Rattle.run.specs.Layout.{place0, place1, place2, all_below}
use Rattle.run.specs.declared.listed.Listed.{Listed}

-- what a list of truths says at a place, bottom past its end
abbrev pub said : {T V : Type 0} → V → (T → V) → List T → ℕ → V
said bottom says truths i = option_map_or says (slice_get truths i) bottom

-- where all numbers of a list are below n, so is the one at each place; past the end it is 0
pub entry_in : (n : ℕ) (xs : List ℕ) → 1 ≤ n → all_below n xs ≡ true → (i : ℕ) → slice_index xs i < n
entry_in n [] some below i = some
entry_in n (x ∷ xs) some below zero = ltb-true x n (and_parts (nat_lt x n) (all_below n xs) below).0
entry_in n (x ∷ xs) some below (suc i) = entry_in n xs some (and_parts (nat_lt x n) (all_below n xs) below).1 i

-- the structure of n elements that a list of elements and one of truths give
abbrev pub listed : {T V : Type 0} → V → (T → V) → (n : ℕ) → (elements : List ℕ) → List T →
    1 ≤ n → all_below n elements ≡ true → Structure V
listed bottom says n elements truths some below =
    let element = slice_index elements in
    let truth = said bottom says truths in
    let element_in = entry_in n elements some below in
    record {
      size = n;
      con = λ d. if inside0 d then element (place0 d) else 0;
      fun1 = λ d a. if inside1 n d a then element (place1 n d a) else 0;
      fun2 = λ d a b. if inside2 n d a b then element (place2 n d a b) else 0;
      pred0 = λ d. if inside0 d then truth (place0 d) else bottom;
      pred1 = λ d a. if inside1 n d a then truth (place1 n d a) else bottom;
      pred2 = λ d a b. if inside2 n d a b then truth (place2 n d a b) else bottom;
      inhabited = some;
      con_in = λ d. cond_lt (inside0 d) (element (place0 d)) 0 n (element_in (place0 d)) some;
      fun1_in = λ d a. cond_lt (inside1 n d a) (element (place1 n d a)) 0 n (element_in (place1 n d a)) some;
      fun2_in = λ d a b. cond_lt (inside2 n d a b) (element (place2 n d a b)) 0 n (element_in (place2 n d a b)) some;
    }

-- what a listed run means
abbrev pub listed_view : {T V : Type 0} → V → (T → V) → Listed T → Structure V
listed_view bottom says r = listed bottom says r.elements.size r.elements.list.now r.truths.now r.elements.some r.elements.below
