-- How bytes are read, one after the other. A reader takes the bytes, the place where it stands and the number of parts that
-- it has read; `most` is the largest number of parts. Assumes nothing.
use Rattle.std.specs.Prelude.{ℕ, zero, suc, ◌+◌, ◌-◌, cond, List, length, ◌==◌, nat_lt, slice_index}
use Rattle.logic.specs.Syntax.{Term, variable, constant, apply1, apply2, Connective, conjunction, disjunction, implication, Quantifier, every, some, Formula, pred0, pred1, pred2, negation, binary, quantified}
use Rattle.logic.specs.Signs.{'x', 'c', 'f', 'g', 'p', 'q', 'r', '-', '&', '|', '>', 'A', 'E', 'open'}
use Rattle.logic.specs.Class.{Class, digits, opens, closes, commas, class_of, is}
use Rattle.logic.specs.Text.{most_parts, most_levels}

-- what can be wrong with a byte, or with the end of the bytes
pub data Misreading : Type 0 where
  not_allowed : Misreading
  ends_early : Misreading
  after_end : Misreading
  too_deep : Misreading
  too_many : Misreading

-- what was read, with the place and the parts after it; or what is wrong, and at which place
pub data Out (A : Type 0) : Type 0 where
  got : A → ℕ → ℕ → Out A
  bad : Misreading → ℕ → Out A

abbrev pub bind : {A B : Type 0} → Out A → (A → ℕ → ℕ → Out B) → Out B
bind (got x at n) f = f x at n
bind (bad k i) f = bad k i

-- what a term begins with
pub data Head : Type 0 where
  head_variable head_constant head_apply1 head_apply2 : Head

-- what a formula begins with
pub data Opening : Type 0 where
  open_pred0 open_pred1 open_pred2 open_negation open_binary : Opening
  open_quantified : Quantifier → Opening

-- the byte at the place
abbrev pub with_byte : {A : Type 0} → List ℕ → ℕ → (ℕ → Out A) → Out A
with_byte bytes at f = cond (nat_lt at (length bytes)) (f (slice_index bytes at)) (bad ends_early at)

-- a byte of the class
abbrev pub sign : Class → List ℕ → ℕ → ℕ → Out (Unit {0})
sign wanted bytes at n = with_byte bytes at (λ b. cond (is (class_of b) wanted) (got tt (at + 1) n) (bad not_allowed at))

-- a digit, by its number
abbrev pub name : List ℕ → ℕ → ℕ → Out ℕ
name bytes at n = with_byte bytes at (λ b. cond (is (class_of b) digits) (got (b - 48) (at + 1) n) (bad not_allowed at))

-- a part may begin here: it is no deeper than the levels left, and not past the last part
abbrev pub part : {A : Type 0} → ℕ → A → ℕ → ℕ → ℕ → Out A
part most h left at n = cond (left == 0) (bad too_deep at) (cond (nat_lt n most) (got h (at + 1) (n + 1)) (bad too_many at))

-- what a term begins with, at the byte b
abbrev pub head_at : ℕ → ℕ → ℕ → ℕ → ℕ → Out Head
head_at most left at n b =
    cond (b == 'x') (part most head_variable left at n) (cond (b == 'c') (part most head_constant left at n)
    (cond (b == 'f') (part most head_apply1 left at n) (cond (b == 'g') (part most head_apply2 left at n) (bad not_allowed at))))

abbrev pub head : ℕ → ℕ → List ℕ → ℕ → ℕ → Out Head
head most left bytes at n = with_byte bytes at (head_at most left at n)

-- a term in brackets
abbrev pub argument : (ℕ → ℕ → Out Term) → List ℕ → ℕ → ℕ → Out Term
argument rec bytes at n =
    bind (sign opens bytes at n) (λ _ at n. bind (rec at n) (λ s at n. bind (sign closes bytes at n) (λ _ at n. got s at n)))

-- two terms in brackets, parted by a comma
abbrev pub arguments : (ℕ → ℕ → Out Term) → List ℕ → ℕ → ℕ → Out (Term × Term)
arguments rec bytes at n =
    bind (sign opens bytes at n)
    (λ _ at n. bind (rec at n)
    (λ s at n. bind (sign commas bytes at n)
    (λ _ at n. bind (rec at n)
    (λ t at n. bind (sign closes bytes at n)
    (λ _ at n. got (s, t) at n)))))

-- what stands after the head and the digit of a term
abbrev pub applied : (ℕ → ℕ → Out Term) → Head → ℕ → List ℕ → ℕ → ℕ → Out Term
applied rec head_variable d bytes at n = got (variable d) at n
applied rec head_constant d bytes at n = got (constant d) at n
applied rec head_apply1 d bytes at n = bind (argument rec bytes at n) (λ s at n. got (apply1 d s) at n)
applied rec head_apply2 d bytes at n = bind (arguments rec bytes at n) (λ p at n. got (apply2 d p.0 p.1) at n)

abbrev pub term_by : (ℕ → ℕ → Out Term) → ℕ → ℕ → List ℕ → ℕ → ℕ → Out Term
term_by rec most left bytes at n =
    bind (head most left bytes at n) (λ h at n. bind (name bytes at n) (λ d at n. applied rec h d bytes at n))

-- a term of at most so many levels
abbrev pub read_term : ℕ → ℕ → List ℕ → ℕ → ℕ → Out Term
read_term most zero bytes at n = term_by (λ at n. bad too_deep at) most 0 bytes at n
read_term most (suc left) bytes at n = term_by (read_term most left bytes) most (suc left) bytes at n

-- what a formula begins with, at the byte b
abbrev pub opening_at : ℕ → ℕ → ℕ → ℕ → ℕ → Out Opening
opening_at most left at n b =
    cond (b == 'p') (part most open_pred0 left at n) (cond (b == 'q') (part most open_pred1 left at n)
    (cond (b == 'r') (part most open_pred2 left at n) (cond (b == '-') (part most open_negation left at n)
    (cond (b == 'open') (part most open_binary left at n) (cond (b == 'A') (part most (open_quantified every) left at n)
    (cond (b == 'E') (part most (open_quantified some) left at n) (bad not_allowed at)))))))

abbrev pub opening : ℕ → ℕ → List ℕ → ℕ → ℕ → Out Opening
opening most left bytes at n = with_byte bytes at (opening_at most left at n)

-- the connective between two formulas, at the byte b
abbrev pub connective_at : ℕ → ℕ → ℕ → Out Connective
connective_at at n b =
    cond (b == '&') (got conjunction (at + 1) n) (cond (b == '|') (got disjunction (at + 1) n)
    (cond (b == '>') (got implication (at + 1) n) (bad not_allowed at)))

abbrev pub connective : List ℕ → ℕ → ℕ → Out Connective
connective bytes at n = with_byte bytes at (connective_at at n)

-- the variable that a quantifier binds
abbrev pub bound : List ℕ → ℕ → ℕ → Out ℕ
bound bytes at n =
    bind (with_byte bytes at (λ b. cond (b == 'x') (got tt (at + 1) n) (bad not_allowed at))) (λ (_ : Unit {0}) at n. name bytes at n)

-- what stands after the bracket that opens a formula
abbrev pub joined : (ℕ → ℕ → Out Formula) → List ℕ → ℕ → ℕ → Out Formula
joined rec bytes at n =
    bind (rec at n)
    (λ a at n. bind (connective bytes at n)
    (λ k at n. bind (rec at n)
    (λ b at n. bind (sign closes bytes at n)
    (λ _ at n. got (binary k a b) at n))))

-- what stands after the letter of a quantifier
abbrev pub generalised : (ℕ → ℕ → Out Formula) → Quantifier → List ℕ → ℕ → ℕ → Out Formula
generalised rec q bytes at n = bind (bound bytes at n) (λ x at n. bind (rec at n) (λ a at n. got (quantified q x a) at n))

-- what stands after the opening of a formula, with so many levels left
abbrev pub rest : (ℕ → ℕ → Out Formula) → ℕ → ℕ → Opening → List ℕ → ℕ → ℕ → Out Formula
rest rec most left open_pred0 bytes at n = bind (name bytes at n) (λ d at n. got (pred0 d) at n)
rest rec most left open_pred1 bytes at n =
    bind (name bytes at n) (λ d at n. bind (argument (read_term most left bytes) bytes at n) (λ s at n. got (pred1 d s) at n))
rest rec most left open_pred2 bytes at n =
    bind (name bytes at n) (λ d at n. bind (arguments (read_term most left bytes) bytes at n) (λ p at n. got (pred2 d p.0 p.1) at n))
rest rec most left open_negation bytes at n = bind (rec at n) (λ a at n. got (negation a) at n)
rest rec most left open_binary bytes at n = joined rec bytes at n
rest rec most left (open_quantified q) bytes at n = generalised rec q bytes at n

abbrev pub formula_by : (ℕ → ℕ → Out Formula) → ℕ → ℕ → List ℕ → ℕ → ℕ → Out Formula
formula_by rec most left bytes at n = bind (opening most left bytes at n) (λ o at n. rest rec most (left - 1) o bytes at n)

-- a formula of at most so many levels
abbrev pub read_formula : ℕ → ℕ → List ℕ → ℕ → ℕ → Out Formula
read_formula most zero bytes at n = formula_by (λ at n. bad too_deep at) most 0 bytes at n
read_formula most (suc left) bytes at n = formula_by (read_formula most left bytes) most (suc left) bytes at n

-- what the bytes are as a whole: a tree, or what is wrong and at which place
pub data Verdict (A : Type 0) : Type 0 where
  reads : A → Verdict A
  faulty : Misreading → ℕ → Verdict A

-- nothing stands behind what was read
abbrev pub closed : {A : Type 0} → List ℕ → Out A → Verdict A
closed bytes (got x at n) = cond (nat_lt at (length bytes)) (faulty after_end at) (reads x)
closed bytes (bad k i) = faulty k i

-- what the bytes are, read as a formula
abbrev pub formula_of : List ℕ → Verdict Formula
formula_of bytes = closed bytes (read_formula most_parts most_levels bytes 0 0)

-- what the bytes are, read as a term
abbrev pub term_of : List ℕ → Verdict Term
term_of bytes = closed bytes (read_term most_parts most_levels bytes 0 0)
