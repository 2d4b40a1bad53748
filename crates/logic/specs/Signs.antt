-- The bytes of the signs. Assumes nothing.
use Rattle.std.specs.Prelude.{ℕ, ◌+◌}
use Rattle.logic.specs.Syntax.{Connective, conjunction, disjunction, implication, Quantifier, every, some}

abbrev pub 'x' : ℕ
'x' = 120

abbrev pub 'c' : ℕ
'c' = 99

abbrev pub 'f' : ℕ
'f' = 102

abbrev pub 'g' : ℕ
'g' = 103

abbrev pub 'p' : ℕ
'p' = 112

abbrev pub 'q' : ℕ
'q' = 113

abbrev pub 'r' : ℕ
'r' = 114

abbrev pub '-' : ℕ
'-' = 45

abbrev pub '&' : ℕ
'&' = 38

abbrev pub '|' : ℕ
'|' = 124

abbrev pub '>' : ℕ
'>' = 62

abbrev pub 'A' : ℕ
'A' = 65

abbrev pub 'E' : ℕ
'E' = 69

-- the bracket that opens
abbrev pub 'open' : ℕ
'open' = 40

-- the bracket that closes
abbrev pub 'close' : ℕ
'close' = 41

abbrev pub 'comma' : ℕ
'comma' = 44

abbrev pub digit : ℕ → ℕ
digit d = 48 + d

abbrev pub joint : Connective → ℕ
joint conjunction = '&'
joint disjunction = '|'
joint implication = '>'

abbrev pub letter : Quantifier → ℕ
letter every = 'A'
letter some = 'E'
