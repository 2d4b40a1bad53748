-- What the program says of a sentence, and of the sheet. Assumes nothing.
use Rattle.std.specs.Prelude.{◌≡◌, ℕ, ◌+◌, ◌-◌, ◌<◌, ◌≤◌, min, Bool, if◌then◌else◌, List, [], ◌∷◌, ◌++◌, length, map, replicate, slice_index, slice_range, codes, nat_lt, Result, Ok, Err}
use Rattle.std.specs.Option.{unwrap_or}
use Rattle.std.specs.Fmt.{decimal}
use Rattle.sign.specs.Shown.{variables_text}
use Rattle.fault.specs.Faults.{number_of, place_of, words_of}
use Rattle.fault.specs.declared.fault.Fault.{Fault}
use Rattle.sentences.specs.declared.judgement.Measures.{Measures}
use Rattle.sentences.specs.declared.counts.Counts.{Counts}
use Rattle.sentences.specs.Windows.{window_start, window_end, shown_as}

-- ---- a sentence, and a caret under a place of it

abbrev pub shown_text : List ℕ → List ℕ
shown_text bytes = map shown_as bytes

-- what stands for bytes that are cut off
abbrev pub mark_text : Bool → List ℕ
mark_text cut = if cut then codes "..." else []

-- the bytes in the window around a place
abbrev pub in_view : List ℕ → ℕ → List ℕ
in_view bytes place = slice_range bytes (window_start place (length bytes)) (window_end place (length bytes))

-- the marks before and behind them
abbrev pub cut_before : List ℕ → ℕ → List ℕ
cut_before bytes place = mark_text (nat_lt 0 (window_start place (length bytes)))

abbrev pub cut_behind : List ℕ → ℕ → List ℕ
cut_behind bytes place = mark_text (nat_lt (window_end place (length bytes)) (length bytes))

-- how many signs stand before the place
abbrev pub column_of : List ℕ → ℕ → ℕ
column_of bytes place = length (cut_before bytes place) + (place - window_start place (length bytes))

-- the line that shows the sentence
abbrev pub line_of : List ℕ → ℕ → List ℕ
line_of bytes place = cut_before bytes place ++ shown_text (in_view bytes place) ++ cut_behind bytes place

-- that line, and the caret in the next one, each behind two blanks
abbrev pub excerpt_at : List ℕ → ℕ → List ℕ
excerpt_at bytes place = codes "  " ++ line_of bytes place ++ 10 ∷ codes "  " ++ replicate (column_of bytes place) 32 ++ codes "^"

-- a place past the sentence is its end
abbrev pub excerpt_text : List ℕ → ℕ → List ℕ
excerpt_text bytes place = excerpt_at bytes (min place (length bytes))

-- so what stands over the caret is the byte at the place, and the marks stand for all that is not shown
pub record CaretUnder (bytes : List ℕ) (place : ℕ) : Type 0 where
  pub over : place < length bytes → slice_index (line_of bytes place) (column_of bytes place) ≡ shown_as (slice_index bytes place)
  pub whole : length bytes ≤ 64 → line_of bytes place ≡ shown_text bytes

-- ---- a judgement

abbrev pub measures_text : Measures → List ℕ
measures_text m = codes "formula, parts " ++ decimal m.parts ++ codes ", levels " ++ decimal m.levels
    ++ codes ", free " ++ variables_text m.free.holds

-- a fault with no number has 0
abbrev pub refusal_text : Fault → List ℕ → List ℕ
refusal_text e bytes = codes "refused " ++ decimal (unwrap_or (number_of e) 0) ++ codes " place " ++ decimal (place_of e)
    ++ codes ": " ++ words_of e ++ 10 ∷ excerpt_text bytes (place_of e)

abbrev judgement_text : Result Measures Fault → List ℕ → List ℕ
judgement_text (Ok m) bytes = measures_text m
judgement_text (Err e) bytes = refusal_text e bytes

-- behind its number
abbrev pub report_text : ℕ → Result Measures Fault → List ℕ → List ℕ
report_text number j bytes = decimal number ++ codes " " ++ judgement_text j bytes

-- ---- the sheet

abbrev pub counts_text : Counts → List ℕ
counts_text c = decimal c.sentences ++ codes " sentences, " ++ decimal c.formulas ++ codes " formulas, " ++ decimal c.refused
    ++ codes " refused"
