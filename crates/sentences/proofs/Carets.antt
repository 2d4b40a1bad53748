-- What stands over the caret. Assumes nothing.
use Rattle.std.proofs.Common.{◌≡◌, ℕ, ◌+◌, ◌-◌, ◌<◌, ◌≤◌, min, List, [], ◌++◌, length, get_or, drop, ap, ap₂, ◌∙◌, append-nil, slice_range, nat_lt, arith}
use lib.Seq.{get_or-append-add, get_or-take, get_or-drop}
use Rattle.std.proofs.lemmas.List.{get_or_append_left, get_or-map, length-take, length-drop, length-map, length-append, take_all}
use Rattle.std.proofs.lemmas.Bool.{le-ltb}
use Rattle.sentences.specs.Windows.{window_start, window_end, shown_as}
use Rattle.sentences.specs.Shown.{shown_text, mark_text, in_view, cut_before, cut_behind, line_of, column_of, CaretUnder}

module _ (bytes : List ℕ) (place : ℕ) where
  over : place < length bytes → get_or (line_of bytes place) (column_of bytes place) 0 ≡ shown_as (get_or bytes place 0)
  over within =
      let n = length bytes in
      let s = window_start place n in
      let e = window_end place n in
      let k = place - s in
      let from : s ≤ place = omega arith in
      let to : place < e = omega arith in
      let view = in_view bytes place in
      let long : length view ≡ e - s = length-take (e - s) (drop s bytes) ∙ ap (min (e - s)) (length-drop s bytes) ∙ omega arith in
      let there : k < length view = omega (arith, long) in
      let cut = cut_before bytes place in
      let column : length cut + k < length (cut ++ shown_text view) = omega (arith, length-append cut (shown_text view), length-map view shown_as, there) in
      get_or_append_left (cut ++ shown_text view) (cut_behind bytes place) 0 (length cut + k) column
      ∙ get_or-append-add cut (shown_text view) k 0
      ∙ get_or-map shown_as view k 0 0 there
      ∙ ap shown_as (get_or-take (e - s) (drop s bytes) k 0 (omega arith) ∙ get_or-drop s bytes k 0 ∙ ap (λ i. get_or bytes i 0) (omega arith))

  whole : length bytes ≤ 64 → line_of bytes place ≡ shown_text bytes
  whole short =
      let n = length bytes in
      let line : ℕ → ℕ → List ℕ = λ s e. mark_text (nat_lt 0 s) ++ shown_text (slice_range bytes s e) ++ mark_text (nat_lt e n) in
      let from : window_start place n ≡ 0 = omega arith in
      let to : window_end place n ≡ n = omega arith in
      let none : mark_text (nat_lt n n) ≡ [] = ap mark_text (le-ltb n n (omega arith)) in
      let all : slice_range bytes 0 n ≡ bytes = take_all (n - 0) bytes (omega arith) in
      ap₂ line from to ∙ ap₂ (λ view behind. shown_text view ++ behind) all none ∙ append-nil (shown_text bytes)

  pub caret_under : CaretUnder bytes place
  caret_under = record { over = over; whole = whole }
