-- Every byte of a tree's text is ASCII. Assumes nothing.
use Rattle.std.specs.Prelude.{ℕ, ◌<◌, List, [], ◌∷◌, ◌++◌}
use Rattle.std.specs.Str.{IsAscii}
use Rattle.std.proofs.Common.{lit<, arith}
use Rattle.std.proofs.lemmas.Str.{IsAscii-append}
use Rattle.std.proofs.lemmas.Str.Ascii.{IsAscii-nil, IsAscii-cons, IsAscii-push}
use Rattle.logic.specs.Signs.{'x', 'c', 'f', 'g', 'p', 'q', 'r', '-', 'open', 'close', 'comma', digit, joint, letter}
use Rattle.logic.specs.Syntax as pure
use Rattle.logic.specs.Text.{term_text, text, enclosed, paired}
use Rattle.sign.specs.View.{connective, quantifier}
use Rattle.sign.specs.declared.name.Name.{Name}
use Rattle.formula.specs.View.{term, formula}
use Rattle.formula.specs.declared.tree.Term.{Term}
use Rattle.formula.specs.declared.tree.Term.TheVariants.{Variable, Constant, Apply1', Apply2'}
use Rattle.formula.specs.declared.tree.Formula.{Formula}
use Rattle.formula.specs.declared.tree.Formula.TheVariants.{Predicate0, Predicate1, Predicate2, Not', Binary', Quantified'}

-- a name with its letter, before other bytes
name : (l : ℕ) (x : Name) (bytes : List ℕ) → l < 128 → IsAscii bytes → IsAscii (l ∷ digit x.digit ∷ bytes)
name l x bytes small a =
    IsAscii-cons l (digit x.digit ∷ bytes) small (IsAscii-cons (digit x.digit) bytes (omega (arith, x.small)) a)

one : (s : List ℕ) → IsAscii s → IsAscii (enclosed s)
one s a = IsAscii-cons 'open' (s ++ ('close' ∷ [])) (lit< tt) (IsAscii-push s 'close' a (lit< tt))

-- two texts in brackets, with the byte x between them
two : (s : List ℕ) (x : ℕ) (t : List ℕ) → IsAscii s → x < 128 → IsAscii t → IsAscii ('open' ∷ (s ++ (x ∷ (t ++ ('close' ∷ [])))))
two s x t a small b =
    let closed = IsAscii-push t 'close' b (lit< tt) in
    IsAscii-cons 'open' (s ++ (x ∷ (t ++ ('close' ∷ [])))) (lit< tt)
    (IsAscii-append s (x ∷ (t ++ ('close' ∷ []))) a (IsAscii-cons x (t ++ ('close' ∷ [])) small closed))

pub term_ascii : (t : Term) → IsAscii (term_text (term t))
term_ascii (Variable x) = name 'x' x [] (lit< tt) IsAscii-nil
term_ascii (Constant c) = name 'c' c [] (lit< tt) IsAscii-nil
term_ascii (Apply1' f p s) = let a = term_text (term s) in name 'f' f (enclosed a) (lit< tt) (one a (term_ascii s))
term_ascii (Apply2' f p s q t) =
    let a = term_text (term s) in
    let b = term_text (term t) in
    name 'g' f (paired a b) (lit< tt) (two a 'comma' b (term_ascii s) (lit< tt) (term_ascii t))

joint_small : (k : pure.Connective) → joint k < 128
joint_small pure.conjunction = lit< tt
joint_small pure.disjunction = lit< tt
joint_small pure.implication = lit< tt

letter_small : (q : pure.Quantifier) → letter q < 128
letter_small pure.every = lit< tt
letter_small pure.some = lit< tt

pub formula_ascii : (a : Formula) → IsAscii (text (formula a))
formula_ascii (Predicate0 p) = name 'p' p [] (lit< tt) IsAscii-nil
formula_ascii (Predicate1 p s) = let a = term_text (term s) in name 'q' p (enclosed a) (lit< tt) (one a (term_ascii s))
formula_ascii (Predicate2 p s t) =
    let a = term_text (term s) in
    let b = term_text (term t) in
    name 'r' p (paired a b) (lit< tt) (two a 'comma' b (term_ascii s) (lit< tt) (term_ascii t))
formula_ascii (Not' p a) = IsAscii-cons '-' (text (formula a)) (lit< tt) (formula_ascii a)
formula_ascii (Binary' k p a q b) =
    let x = joint (connective k) in
    two (text (formula a)) x (text (formula b)) (formula_ascii a) (joint_small (connective k)) (formula_ascii b)
formula_ascii (Quantified' q x p a) =
    IsAscii-cons (letter (quantifier q)) ('x' ∷ digit x.digit ∷ text (formula a)) (letter_small (quantifier q))
    (name 'x' x (text (formula a)) (lit< tt) (formula_ascii a))
