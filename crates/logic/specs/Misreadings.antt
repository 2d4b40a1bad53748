-- What each misreading means. Assumes nothing.
use Rattle.std.specs.Prelude.{◌≡◌, ℕ, ◌+◌, ◌<◌, ◌≤◌, List, ◌++◌, length, take, ◌≢◌, slice_index}
use Rattle.logic.specs.Syntax.{Term, Formula}
use Rattle.logic.specs.Text.{text, term_text, Named, TermNamed, WellFormed, TermWellFormed, most_parts, most_levels}
use Rattle.logic.specs.Depths.{depths, term_depths, begun, deepest}
use Rattle.logic.specs.Reading.{Misreading, not_allowed, ends_early, after_end, too_deep, too_many}

-- a kind of trees: which are of the grammar, which are within the limits, their texts, and where the parts of a text begin
pub record Grammar (A : Type 0) : Type 1 where
  pub named : A → Type 0
  pub formed : A → Type 0
  pub spells : A → List ℕ
  pub begins : A → List ℕ

abbrev pub formulas : Grammar Formula
formulas = record { named = Named; formed = WellFormed; spells = text; begins = depths 1 }

abbrev pub terms : Grammar Term
terms = record { named = TermNamed; formed = TermWellFormed; spells = term_text; begins = term_depths 1 }

-- the parts that begin there are within the limits
pub record Fits (begins : List ℕ) : Type 0 where
  pub flat : deepest begins ≤ most_levels
  pub few : begun begins ≤ most_parts

module _ {A : Type 0} (G : Grammar A) where
  -- the bytes go on to the text of the tree, which is of the grammar, whatever its size
  pub record GoesOn (bytes : List ℕ) (a : A) : Type 0 where
    pub named : G.named a
    pub rest : List ℕ
    pub goes : G.spells a ≡ bytes ++ rest

  -- however the bytes go on, the parts that begin among them are within the limits
  abbrev pub Within : List ℕ → Type 0
  Within bytes = (a : A) → GoesOn bytes a → Fits (take (length bytes) (G.begins a))

  -- the bytes before the place can go on, and are not the whole of a text; with the byte at the place they no longer can go on
  pub record NotAllowed (bytes : List ℕ) (i : ℕ) : Type 0 where
    pub within : i < length bytes
    pub tree : A
    pub before : GoesOn (take i bytes) tree
    pub fits : Within (take i bytes)
    pub not_whole : (a : A) → G.named a → G.spells a ≢ take i bytes
    pub cannot : (a : A) → GoesOn (take (i + 1) bytes) a → ⊥

  -- the bytes can go on, and are not the whole of a text
  pub record EndsEarly (bytes : List ℕ) (i : ℕ) : Type 0 where
    pub at_end : i ≡ length bytes
    pub tree : A
    pub before : GoesOn bytes tree
    pub fits : Within bytes
    pub not_whole : (a : A) → G.named a → G.spells a ≢ bytes

  -- the bytes before the place are a whole text, within the limits
  pub record AfterEnd (bytes : List ℕ) (i : ℕ) : Type 0 where
    pub within : i < length bytes
    pub tree : A
    pub formed : G.formed tree
    pub whole : G.spells tree ≡ take i bytes

  -- the bytes up to and with the one at the place can go on, and the part that begins there, however they do, is the first one
  -- out of the limits: it stands one level too deep
  pub record TooDeep (bytes : List ℕ) (i : ℕ) : Type 0 where
    pub within : i < length bytes
    pub tree : A
    pub with_it : GoesOn (take (i + 1) bytes) tree
    pub fits : Within (take i bytes)
    pub level : (a : A) → GoesOn (take (i + 1) bytes) a → slice_index (G.begins a) i ≡ most_levels + 1

  -- the same; it is not too deep, but one part too many
  pub record TooMany (bytes : List ℕ) (i : ℕ) : Type 0 where
    pub within : i < length bytes
    pub tree : A
    pub with_it : GoesOn (take (i + 1) bytes) tree
    pub fits : Within (take i bytes)
    pub begins_here : (a : A) → GoesOn (take (i + 1) bytes) a → 0 < slice_index (G.begins a) i
    pub flat : (a : A) → GoesOn (take (i + 1) bytes) a → slice_index (G.begins a) i ≤ most_levels
    pub full : (a : A) → GoesOn (take (i + 1) bytes) a → begun (take i (G.begins a)) ≡ most_parts

  -- what is wrong with the bytes at the place
  abbrev pub Means : List ℕ → Misreading → ℕ → Type 0
  Means bytes not_allowed i = NotAllowed bytes i
  Means bytes ends_early i = EndsEarly bytes i
  Means bytes after_end i = AfterEnd bytes i
  Means bytes too_deep i = TooDeep bytes i
  Means bytes too_many i = TooMany bytes i
