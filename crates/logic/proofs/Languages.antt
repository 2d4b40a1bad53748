-- Languages of texts, each text with the places where its parts begin, and what is left of one behind some bytes.
-- Assumes nothing.
use Rattle.std.proofs.Common.{◌≡◌, ℕ, ◌<◌, List, [], ◌∷◌, ◌++◌, sym, refl, ap, ◌∙◌, append_assoc}
use Rattle.logic.specs.Syntax.{Connective}
use Rattle.logic.specs.Signs.{'open', 'close', 'comma', digit, joint}
use Rattle.logic.specs.Text.{names, term_text, text, TermNamed, Named}
use Rattle.logic.specs.Depths.{term_depths, depths}

abbrev pub Language : Type 1
Language = List ℕ → List ℕ → Type 0

-- some text is in the language
abbrev pub Alive : Language → Type 0
Alive L = (u : List ℕ) × (e : List ℕ) × L u e

-- nothing more
abbrev pub End : Language
End u e = (u ≡ []) × (e ≡ [])

-- the text of a tree of some kind, and then a text of K
pub record Then {A : Type 0} (named : A → Type 0) (spells : A → List ℕ) (begins : A → List ℕ) (K : Language) (u e : List ℕ) : Type 0 where
  pub tree : A
  pub ok : named tree
  pub v : List ℕ
  pub f : List ℕ
  pub spelt : u ≡ spells tree ++ v
  pub marked : e ≡ begins tree ++ f
  pub after : K v f

pub then_alive : {A : Type 0} (named : A → Type 0) (spells : A → List ℕ) (begins : A → List ℕ) (K : Language) (a : A) → named a → Alive K → Alive (Then named spells begins K)
then_alive named spells begins K a ok k =
    (spells a ++ k.0, begins a ++ k.1, record { tree = a; ok = ok; v = k.0; f = k.1; spelt = refl; marked = refl; after = k.2 })

-- one byte
abbrev pub Byte : ℕ → Language → Language
Byte b = Then {A = Unit {0}} (λ _. Unit {0}) (λ _. b ∷ []) (λ _. 0 ∷ [])

abbrev pub Digit : Language → Language
Digit = Then (λ d. d < names) (λ d. digit d ∷ []) (λ _. 0 ∷ [])

abbrev pub Joint : Language → Language
Joint = Then {A = Connective} (λ _. Unit {0}) (λ k. joint k ∷ []) (λ _. 0 ∷ [])

abbrev pub TermAt : ℕ → Language → Language
TermAt l = Then TermNamed term_text (term_depths l)

abbrev pub FormulaAt : ℕ → Language → Language
FormulaAt l = Then Named text (depths l)

-- one term, and two, in brackets
abbrev pub Argument : ℕ → Language → Language
Argument l K = Byte 'open' (TermAt l (Byte 'close' K))

abbrev pub Arguments : ℕ → Language → Language
Arguments l K = Byte 'open' (TermAt l (Byte 'comma' (TermAt l (Byte 'close' K))))

-- K is what is left of L behind the bytes w, at which parts begin as d says
pub record Left (L : Language) (w d : List ℕ) (K : Language) : Type 0 where
  pub make : (u e : List ℕ) → K u e → L (w ++ u) (d ++ e)
  pub split : (u e : List ℕ) → L (w ++ u) e → (f : List ℕ) × (e ≡ d ++ f) × K u f

pub left_none : (L : Language) → Left L [] [] L
left_none L = record { make = λ u e h. h; split = λ u e h. (e, refl, h) }

pub left_then : (L M K : Language) (w d v c : List ℕ) → Left L w d M → Left M v c K → Left L (w ++ v) (d ++ c) K
left_then L M K w d v c p q =
    record {
      make = λ u e h. rw (append_assoc w v u, append_assoc d c e) (p.make (v ++ u) (c ++ e) (q.make u e h));
      split = λ u e h.
          let a = p.split (v ++ u) e (rw (append_assoc w v u) at h) in
          let b = q.split u a.0 a.2 in
          (b.0, a.1 ∙ ap (λ (l : List ℕ). d ++ l) b.1 ∙ sym (append_assoc d c b.0), b.2);
    }
