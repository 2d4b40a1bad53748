-- The classes of bytes agree with the grammar. Assumes nothing.
use Rattle.std.specs.Prelude.{◌≡◌, ℕ, ◌<◌, List, [], ◌∷◌, ◌++◌, ◌≢◌}
use Rattle.std.specs.List.{AllByRecursion}
use Rattle.logic.specs.Syntax.{Term, variable, constant, apply1, apply2, Connective, conjunction, disjunction, implication, every, some, Formula, pred0, pred1, pred2, negation, binary, quantified}
use Rattle.logic.specs.Signs.{'x', 'open', 'close', digit}
use Rattle.logic.specs.Text.{names, enclosed, paired, term_text, text, TermNamed, Named}
use Rattle.logic.specs.Class.{Class, none, digits, opens, closes, commas, variables, constants, functions1, functions2, predicates0, predicates1, predicates2, denials, conjunctions, disjunctions, implications, everys, somes, class_of}

-- the byte is none of these
abbrev pub Lacks : ℕ → List ℕ → Type 0
Lacks b bytes = AllByRecursion (λ c. c ≢ b) bytes

-- the byte stands between the texts of two formulas
abbrev pub Joins : ℕ → Connective → Type 0
Joins b k = (a c : Formula) → text (binary k a c) ≡ 'open' ∷ (text a ++ (b ∷ (text c ++ ('close' ∷ []))))

-- the byte is in the texts what its class says; a byte of no class is in none
abbrev pub Agrees : ℕ → Class → Type 0
Agrees b none = ((a : Formula) → Named a → Lacks b (text a)) × ((t : Term) → TermNamed t → Lacks b (term_text t))
Agrees b digits = (d : ℕ) × (d < names) × (b ≡ digit d)
Agrees b opens = (s : List ℕ) → enclosed s ≡ b ∷ (s ++ ('close' ∷ []))
Agrees b closes = (s : List ℕ) → enclosed s ≡ 'open' ∷ (s ++ (b ∷ []))
Agrees b commas = (s t : List ℕ) → paired s t ≡ 'open' ∷ (s ++ (b ∷ (t ++ ('close' ∷ []))))
Agrees b variables = (x : ℕ) → term_text (variable x) ≡ b ∷ digit x ∷ []
Agrees b constants = (c : ℕ) → term_text (constant c) ≡ b ∷ digit c ∷ []
Agrees b functions1 = (f : ℕ) (s : Term) → term_text (apply1 f s) ≡ b ∷ digit f ∷ enclosed (term_text s)
Agrees b functions2 = (f : ℕ) (s t : Term) → term_text (apply2 f s t) ≡ b ∷ digit f ∷ paired (term_text s) (term_text t)
Agrees b predicates0 = (p : ℕ) → text (pred0 p) ≡ b ∷ digit p ∷ []
Agrees b predicates1 = (p : ℕ) (s : Term) → text (pred1 p s) ≡ b ∷ digit p ∷ enclosed (term_text s)
Agrees b predicates2 = (p : ℕ) (s t : Term) → text (pred2 p s t) ≡ b ∷ digit p ∷ paired (term_text s) (term_text t)
Agrees b denials = (a : Formula) → text (negation a) ≡ b ∷ text a
Agrees b conjunctions = Joins b conjunction
Agrees b disjunctions = Joins b disjunction
Agrees b implications = Joins b implication
Agrees b everys = (x : ℕ) (a : Formula) → text (quantified every x a) ≡ b ∷ 'x' ∷ digit x ∷ text a
Agrees b somes = (x : ℕ) (a : Formula) → text (quantified some x a) ≡ b ∷ 'x' ∷ digit x ∷ text a

-- each byte has the one class that agrees with the grammar
pub record ClassesAgree : Type 0 where
  pub agrees : (b : ℕ) → Agrees b (class_of b)
  pub only : (b : ℕ) (c : Class) → Agrees b c → class_of b ≡ c
