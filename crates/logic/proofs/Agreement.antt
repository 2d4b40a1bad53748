-- The classes of bytes agree with the grammar. Assumes nothing.
use Rattle.std.proofs.Common.{◌≡◌, ℕ, ◌-◌, ◌<◌, false, cond, ◌&&◌, eqb, ltb, leb, List, [], get_or, sym, refl, ap, ◌∙◌, subst, arith, lit<}
use Rattle.std.specs.List.{AllByRecursion}
use Rattle.std.proofs.ByRecursion.{All-append, All-weaker}
use Rattle.std.proofs.lemmas.Bool.{leb-true, ltb-true, eqb-true, and_parts, both_ways, cond_both}
use Rattle.std.proofs.lemmas.Bool.Decides.{nat_tests}
use Rattle.logic.specs.Syntax.{Term, variable, constant, apply1, apply2, Connective, conjunction, disjunction, implication, Quantifier, every, some, Formula, pred0, pred1, pred2, negation, binary, quantified}
use Rattle.logic.specs.Signs.{'x', 'c', 'f', 'g', 'p', 'q', 'r', '-', '&', '|', '>', 'A', 'E', 'open', 'close', 'comma', digit, joint, letter}
use Rattle.logic.specs.Text.{names, enclosed, paired, term_text, text, TermNamed, Named}
use Rattle.logic.specs.Class.{Class, none, digits, opens, closes, commas, variables, constants, functions1, functions2, predicates0, predicates1, predicates2, denials, conjunctions, disjunctions, implications, everys, somes, class_of, is}
use Rattle.logic.specs.Agreement.{Lacks, Agrees, ClassesAgree}

class_digit : (d : ℕ) → d < names → class_of (digit d) ≡ digits
class_digit d l = grind (arith, nat_tests)

-- Every byte of a text has a class.

abbrev Classed : ℕ → Type 0
Classed b = is (class_of b) none ≡ false

classed_digit : (d : ℕ) → d < names → Classed (digit d)
classed_digit d l = rw (class_digit d l) refl

classed_joint : (k : Connective) → Classed (joint k)
classed_joint conjunction = refl
classed_joint disjunction = refl
classed_joint implication = refl

classed_letter : (q : Quantifier) → Classed (letter q)
classed_letter every = refl
classed_letter some = refl

classed_enclosed : (s : List ℕ) → AllByRecursion Classed s → AllByRecursion Classed (enclosed s)
classed_enclosed s h = (refl, All-append Classed s _ h (refl, tt))

classed_paired : (s t : List ℕ) → AllByRecursion Classed s → AllByRecursion Classed t → AllByRecursion Classed (paired s t)
classed_paired s t h k = (refl, All-append Classed s _ h (refl, All-append Classed t _ k (refl, tt)))

term_classed : (t : Term) → TermNamed t → AllByRecursion Classed (term_text t)
term_classed (variable x) ok = (refl, (classed_digit x ok, tt))
term_classed (constant c) ok = (refl, (classed_digit c ok, tt))
term_classed (apply1 f s) ok = (refl, (classed_digit f ok.0, classed_enclosed _ (term_classed s ok.1)))
term_classed (apply2 f s t) ok = (refl, (classed_digit f ok.0, classed_paired _ _ (term_classed s ok.1) (term_classed t ok.2)))

classed : (a : Formula) → Named a → AllByRecursion Classed (text a)
classed (pred0 p) ok = (refl, (classed_digit p ok, tt))
classed (pred1 p s) ok = (refl, (classed_digit p ok.0, classed_enclosed _ (term_classed s ok.1)))
classed (pred2 p s t) ok = (refl, (classed_digit p ok.0, classed_paired _ _ (term_classed s ok.1) (term_classed t ok.2)))
classed (negation a) ok = (refl, classed a ok)
classed (binary k a b) ok =
    (refl, All-append Classed (text a) _ (classed a ok.0) (classed_joint k, All-append Classed (text b) _ (classed b ok.1) (refl, tt)))
classed (quantified q x a) ok = (classed_letter q, (refl, (classed_digit x ok.0, classed a ok.1)))

lacks : (b : ℕ) (bytes : List ℕ) → class_of b ≡ none → AllByRecursion Classed bytes → Lacks b bytes
lacks b bytes e h =
    All-weaker Classed _ (λ c k same. both_ways (is (class_of c) none) k (ap (λ z. is (class_of z) none) same ∙ ap (λ z. is z none) e)) bytes h

-- the tests of a class, one after the other: where b is w it is of the class c, else the other tests tell
module _ (b : ℕ) where
  abbrev Told : Class → Type 0
  Told c = class_of b ≡ c → Agrees b c

  told_sign : (w : ℕ) (c d : Class) → Agrees w c → Told d → Told (cond (eqb b w) c d)
  told_sign w c d h k = cond_both (eqb b w) c d Told (λ t _. subst (λ z. Agrees z c) (sym (eqb-true b w t)) h) (λ _. k)

  told_digit : (d : Class) → Told d → Told (cond (leb 48 b && ltb b 56) digits d)
  told_digit d k =
      cond_both (leb 48 b && ltb b 56) digits d Told
      (λ t _. let r = and_parts (leb 48 b) (ltb b 56) t in (b - 48, omega (arith, ltb-true b 56 r.1), omega (arith, leb-true 48 b r.0)))
      (λ _. k)

agrees : (b : ℕ) → Agrees b (class_of b)
agrees b =
    told_digit b _
    (told_sign b 'open' opens _ (λ _. refl)
    (told_sign b 'close' closes _ (λ _. refl)
    (told_sign b 'comma' commas _ (λ _ _. refl)
    (told_sign b 'x' variables _ (λ _. refl)
    (told_sign b 'c' constants _ (λ _. refl)
    (told_sign b 'f' functions1 _ (λ _ _. refl)
    (told_sign b 'g' functions2 _ (λ _ _ _. refl)
    (told_sign b 'p' predicates0 _ (λ _. refl)
    (told_sign b 'q' predicates1 _ (λ _ _. refl)
    (told_sign b 'r' predicates2 _ (λ _ _ _. refl)
    (told_sign b '-' denials _ (λ _. refl)
    (told_sign b '&' conjunctions _ (λ _ _. refl)
    (told_sign b '|' disjunctions _ (λ _ _. refl)
    (told_sign b '>' implications _ (λ _ _. refl)
    (told_sign b 'A' everys _ (λ _ _. refl)
    (told_sign b 'E' somes _ (λ _ _. refl)
    (λ e. ((λ a ok. lacks b (text a) e (classed a ok)), (λ t ok. lacks b (term_text t) e (term_classed t ok)))))))))))))))))))) refl

-- the byte at a place of two texts that are the same
at : (i : ℕ) {u v : List ℕ} → u ≡ v → get_or u i 0 ≡ get_or v i 0
at i e = ap (λ (l : List ℕ). get_or l i 0) e

class_at : (i : ℕ) {u v : List ℕ} → u ≡ v → class_of (get_or v i 0) ≡ class_of (get_or u i 0)
class_at i e = ap class_of (sym (at i e))

-- the first names of their kinds
abbrev x0 : Term
x0 = variable 0

abbrev p0 : Formula
p0 = pred0 0

-- a byte of a class stands in some text: one that stands in none has no class
stands : (b : ℕ) (c : Class) → Agrees b c → Agrees b none → c ≡ none
stands b none k h = refl
stands b digits k h = absurd ((h.1 (variable k.0) k.1).1.0 (sym k.2))
stands b opens k h = absurd ((h.1 (apply1 0 x0) (lit< tt, lit< tt)).1.1.0 (at 0 (k [])))
stands b closes k h = absurd ((h.1 (apply1 0 x0) (lit< tt, lit< tt)).1.1.1.1.1.0 (at 1 (k [])))
stands b commas k h = absurd ((h.1 (apply2 0 x0 x0) (lit< tt, lit< tt, lit< tt)).1.1.1.1.1.0 (at 1 (k [] [])))
stands b variables k h = absurd ((h.1 x0 (lit< tt)).0 (at 0 (k 0)))
stands b constants k h = absurd ((h.1 (constant 0) (lit< tt)).0 (at 0 (k 0)))
stands b functions1 k h = absurd ((h.1 (apply1 0 x0) (lit< tt, lit< tt)).0 (at 0 (k 0 x0)))
stands b functions2 k h = absurd ((h.1 (apply2 0 x0 x0) (lit< tt, lit< tt, lit< tt)).0 (at 0 (k 0 x0 x0)))
stands b predicates0 k h = absurd ((h.0 p0 (lit< tt)).0 (at 0 (k 0)))
stands b predicates1 k h = absurd ((h.0 (pred1 0 x0) (lit< tt, lit< tt)).0 (at 0 (k 0 x0)))
stands b predicates2 k h = absurd ((h.0 (pred2 0 x0 x0) (lit< tt, lit< tt, lit< tt)).0 (at 0 (k 0 x0 x0)))
stands b denials k h = absurd ((h.0 (negation p0) (lit< tt)).0 (at 0 (k p0)))
stands b conjunctions k h = absurd ((h.0 (binary conjunction p0 p0) (lit< tt, lit< tt)).1.1.1.0 (at 3 (k p0 p0)))
stands b disjunctions k h = absurd ((h.0 (binary disjunction p0 p0) (lit< tt, lit< tt)).1.1.1.0 (at 3 (k p0 p0)))
stands b implications k h = absurd ((h.0 (binary implication p0 p0) (lit< tt, lit< tt)).1.1.1.0 (at 3 (k p0 p0)))
stands b everys k h = absurd ((h.0 (quantified every 0 p0) (lit< tt, lit< tt)).0 (at 0 (k 0 p0)))
stands b somes k h = absurd ((h.0 (quantified some 0 p0) (lit< tt, lit< tt)).0 (at 0 (k 0 p0)))

only : (b : ℕ) (c : Class) → Agrees b c → class_of b ≡ c
only b none k = stands b (class_of b) (agrees b) k
only b digits k = ap class_of k.2 ∙ class_digit k.0 k.1
only b opens k = class_at 0 (k [])
only b closes k = class_at 1 (k [])
only b commas k = class_at 1 (k [] [])
only b variables k = class_at 0 (k 0)
only b constants k = class_at 0 (k 0)
only b functions1 k = class_at 0 (k 0 x0)
only b functions2 k = class_at 0 (k 0 x0 x0)
only b predicates0 k = class_at 0 (k 0)
only b predicates1 k = class_at 0 (k 0 x0)
only b predicates2 k = class_at 0 (k 0 x0 x0)
only b denials k = class_at 0 (k p0)
only b conjunctions k = class_at 3 (k p0 p0)
only b disjunctions k = class_at 3 (k p0 p0)
only b implications k = class_at 3 (k p0 p0)
only b everys k = class_at 0 (k 0 p0)
only b somes k = class_at 0 (k 0 p0)

pub classes_agree : ClassesAgree
classes_agree = record { agrees = agrees; only = only }
