-- The class that the program's enum stands for, and the test that a table follows the rule of classes. Assumes nothing.
use Rattle.std.specs.Prelude.{ℕ, suc, Bool, true, ◌&&◌, List, [], ◌∷◌}
use Rattle.logic.specs.Class as pure
use Rattle.logic.specs.Class.{class_of, is}
use Rattle.sign.specs.declared.class.Class.{Class}
use Rattle.sign.specs.declared.class.Class.TheVariants.{None, Digit, Open, Close, Comma, Variable, Constant, Function1, Function2, Predicate0, Predicate1, Predicate2, Not, And, Or, Implies, Every, Some}

abbrev pub class : Class → pure.Class
class None = pure.none
class Digit = pure.digits
class Open = pure.opens
class Close = pure.closes
class Comma = pure.commas
class Variable = pure.variables
class Constant = pure.constants
class Function1 = pure.functions1
class Function2 = pure.functions2
class Predicate0 = pure.predicates0
class Predicate1 = pure.predicates1
class Predicate2 = pure.predicates2
class Not = pure.denials
class And = pure.conjunctions
class Or = pure.disjunctions
class Implies = pure.implications
class Every = pure.everys
class Some = pure.somes

-- each entry is of the class of its place, counted from i: one test over the whole table
abbrev pub follows : ℕ → List Class → Bool
follows i [] = true
follows i (x ∷ xs) = is (class x) (class_of i) && follows (suc i) xs
