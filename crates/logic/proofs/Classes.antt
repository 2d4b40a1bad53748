-- Classes are told apart by their numbers. Assumes nothing.
use Rattle.std.proofs.Common.{◌≡◌, T, List, [], ◌∷◌, get_or, sym, refl, ap, ◌∙◌, eqb→eq}
use Rattle.logic.specs.Class.{Class, none, digits, opens, closes, commas, variables, constants, functions1, functions2, predicates0, predicates1, predicates2, denials, conjunctions, disjunctions, implications, everys, somes, number, is}

abbrev all : List Class
all =
    none ∷ digits ∷ opens ∷ closes ∷ commas ∷ variables ∷ constants ∷ functions1 ∷ functions2 ∷ predicates0 ∷ predicates1
    ∷ predicates2 ∷ denials ∷ conjunctions ∷ disjunctions ∷ implications ∷ everys ∷ somes ∷ []

back : (c : Class) → get_or all (number c) none ≡ c
back none = refl
back digits = refl
back opens = refl
back closes = refl
back commas = refl
back variables = refl
back constants = refl
back functions1 = refl
back functions2 = refl
back predicates0 = refl
back predicates1 = refl
back predicates2 = refl
back denials = refl
back conjunctions = refl
back disjunctions = refl
back implications = refl
back everys = refl
back somes = refl

pub same_class : (c d : Class) → T (is c d) → c ≡ d
same_class c d t = sym (back c) ∙ ap (λ n. get_or all n none) (eqb→eq (number c) (number d) t) ∙ back d
