-- The class of a byte: a digit, a bracket, a comma, else the sign that the byte is or begins, or none. Assumes nothing.
use Rattle.std.specs.Prelude.{ℕ, Bool, cond, ◌&&◌, ◌==◌, nat_le, nat_lt}
use Rattle.logic.specs.Signs.{'x', 'c', 'f', 'g', 'p', 'q', 'r', '-', '&', '|', '>', 'A', 'E', 'open', 'close', 'comma'}

pub data Class : Type 0 where
  none digits opens closes commas : Class
  variables constants functions1 functions2 : Class
  predicates0 predicates1 predicates2 : Class
  denials conjunctions disjunctions implications : Class
  everys somes : Class

-- a number for each class
abbrev pub number : Class → ℕ
number none = 0
number digits = 1
number opens = 2
number closes = 3
number commas = 4
number variables = 5
number constants = 6
number functions1 = 7
number functions2 = 8
number predicates0 = 9
number predicates1 = 10
number predicates2 = 11
number denials = 12
number conjunctions = 13
number disjunctions = 14
number implications = 15
number everys = 16
number somes = 17

abbrev pub is : Class → Class → Bool
is c d = number c == number d

abbrev is_digit : ℕ → Bool
is_digit b = nat_le 48 b && nat_lt b 56

-- the sign that a byte is or begins
abbrev sign_of : ℕ → Class
sign_of b =
    cond (b == 'x') variables (cond (b == 'c') constants (cond (b == 'f') functions1 (cond (b == 'g') functions2
    (cond (b == 'p') predicates0 (cond (b == 'q') predicates1 (cond (b == 'r') predicates2
    (cond (b == '-') denials (cond (b == '&') conjunctions (cond (b == '|') disjunctions (cond (b == '>') implications
    (cond (b == 'A') everys (cond (b == 'E') somes none))))))))))))

-- the class of a byte
abbrev pub class_of : ℕ → Class
class_of b =
    cond (is_digit b) digits (cond (b == 'open') opens (cond (b == 'close') closes (cond (b == 'comma') commas (sign_of b))))
