-- The number, the layer, the text and the place of each fault, and the words for texts and faults. Assumes nothing.
use Rattle.std.specs.Prelude.{ℕ, List, Some, None, codes, Option}
use Rattle.fault.specs.declared.fault.Source.{Source}
use Rattle.fault.specs.declared.fault.Misreading.TheVariants.{NotAllowed, EndsEarly, AfterEnd, TooDeep, TooMany}
use Rattle.fault.specs.declared.fault.Misreading.{Misreading}
use Rattle.fault.specs.declared.fault.Layer.{Layer}
use Rattle.fault.specs.declared.fault.Fault.{Fault}
use Rattle.fault.specs.declared.fault.Fault.TheVariants.{Reading, SizeOutOfRange, WrongCount, ElementOutOfRange, NotATruthValue, BufferShort, Memory}

-- a fault of reading is a misreading of a text at a place: these are its number and its words
abbrev pub misreading_number : Misreading → ℕ
misreading_number NotAllowed = 5
misreading_number EndsEarly = 6
misreading_number AfterEnd = 7
misreading_number TooDeep = 8
misreading_number TooMany = 9

abbrev pub misreading_words : Misreading → List ℕ
misreading_words NotAllowed = codes "byte not allowed at this point"
misreading_words EndsEarly = codes "bytes end too soon"
misreading_words AfterEnd = codes "bytes after the end"
misreading_words TooDeep = codes "part at level 25"
misreading_words TooMany = codes "part 201"

abbrev pub number_of : Fault → Option ℕ
number_of (Reading m s i) = Some (misreading_number m)
number_of SizeOutOfRange = Some 19
number_of WrongCount = Some 20
number_of ElementOutOfRange = Some 21
number_of NotATruthValue = Some 22
number_of BufferShort = Some 26
number_of Memory = None

abbrev pub layer_of : Fault → Layer
layer_of (Reading m s i) = Layer.Reader
layer_of SizeOutOfRange = Layer.Run
layer_of WrongCount = Layer.Run
layer_of ElementOutOfRange = Layer.Run
layer_of NotATruthValue = Layer.Run
layer_of BufferShort = Layer.Text
layer_of Memory = Layer.Memory

abbrev pub source_of : Fault → Option Source
source_of (Reading m s i) = Some s
source_of _ = None

abbrev pub place_of : Fault → ℕ
place_of (Reading m s i) = i
place_of _ = 0

-- the word for the text that a fault of reading is in
abbrev pub word_of : Source → List ℕ
word_of Source.Formula = codes "formula"
word_of Source.Term = codes "term"

-- what is said of a fault to people
abbrev pub words_of : Fault → List ℕ
words_of (Reading m s i) = misreading_words m
words_of SizeOutOfRange = codes "size out of range"
words_of WrongCount = codes "wrong number of bytes or words"
words_of ElementOutOfRange = codes "element not below the size"
words_of NotATruthValue = codes "truth byte not 0 or 1"
words_of BufferShort = codes "buffer too short"
words_of Memory = codes "out of memory"

-- P of a fault of reading; of want of memory nothing is said; any other fault is impossible
abbrev pub OfReading : (Misreading → Source → ℕ → Type 0) → Fault → Type 0
OfReading P (Reading m s i) = P m s i
OfReading P Memory = Unit {0}
OfReading P _ = ⊥
