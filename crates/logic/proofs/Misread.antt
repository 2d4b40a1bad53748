-- Each misreading means what it should. Assumes nothing.
use Rattle.std.proofs.Common.{◌≡◌, ℕ, zero, suc, ◌+◌, ◌-◌, ◌<◌, ◌≤◌, Bool, true, false, cond, ◌&&◌, eqb, ltb, leb, List, [], ◌∷◌, ◌++◌, length, drop, sym, refl, ap, ◌∙◌, subst, append_assoc, arith}
use Rattle.std.proofs.lemmas.Bool.{eqb-true, eqb-false, leb-true, ltb-true, and_parts, both_ways, cond_both}
use Rattle.std.proofs.lemmas.Bool.Decides.{nat_tests}
use Rattle.logic.specs.Syntax.{Term, variable, constant, apply1, apply2, Connective, conjunction, disjunction, implication, every, some, Formula, pred0, pred1, pred2, negation, binary, quantified}
use Rattle.logic.specs.Signs.{'x', 'c', 'f', 'g', 'p', 'q', 'r', '-', '&', '|', '>', 'A', 'E', 'open', 'close', 'comma', digit, joint}
use Rattle.logic.specs.Class.{digits, opens, closes, commas, class_of, is}
use Rattle.logic.specs.Text.{names, most_levels, enclosed, paired, term_text, text, TermNamed, Named}
use Rattle.logic.specs.Depths.{enclosed_depths, paired_depths, term_depths, depths}
use Rattle.logic.specs.Reading.{not_allowed, too_deep, Out, got, bad, Head, head_variable, head_constant, head_apply1, head_apply2, Opening, open_pred0, open_pred1, open_pred2, open_negation, open_binary, open_quantified, with_byte, sign, name, part, head, argument, arguments, applied, term_by, read_term, head_at, opening_at, connective_at, opening, connective, bound, rest, formula_by, read_formula}
use Rattle.logic.proofs.Steps.{head_byte, opening_byte, is_opens, is_closes, is_commas, is_digits}
use Rattle.logic.proofs.Languages.{Language, Alive, Then, then_alive, Byte, Digit, Joint, TermAt, FormulaAt, Argument, Arguments, Left}
use Rattle.logic.proofs.Serves.{Passes, stay, Serves, serves_step, serves_bind, serves_byte, refuses, takes, serves_part}

-- A language whose texts begin with one byte of a tree.

abbrev One : {A : Type 0} → (A → Type 0) → (A → ℕ) → ℕ → Language → Language
One named byte_of l = Then named (λ a. byte_of a ∷ []) (λ _. l ∷ [])

one_left : {A : Type 0} (named : A → Type 0) (byte_of : A → ℕ) (l : ℕ) (K : Language) (a : A) → named a → Left (One named byte_of l K) (byte_of a ∷ []) (l ∷ []) K
one_left named byte_of l K a ok =
    record {
      make = λ u e h. record { tree = a; ok = ok; v = u; f = e; spelt = refl; marked = refl; after = h };
      split = λ u e q. let same : q.v ≡ u = cc q.spelt in (q.f, q.marked, subst (λ z. K z q.f) same q.after);
    }

one_some : {A : Type 0} (named : A → Type 0) (byte_of : A → ℕ) (l : ℕ) (K : Language) (e : List ℕ) → One named byte_of l K [] e → ⊥
one_some named byte_of l K e q = omega (arith, ap length q.spelt)

one_first : {A : Type 0} (named : A → Type 0) (byte_of : A → ℕ) (l : ℕ) (K : Language) (b : ℕ) (u e : List ℕ) (q : One named byte_of l K (b ∷ u) e) → b ≡ byte_of q.tree
one_first named byte_of l K b u e q = cc q.spelt

-- One term, and two, in brackets.

argument_into : (l : ℕ) (K : Language) (u e : List ℕ) → Argument l K u e → Then TermNamed (λ s. enclosed (term_text s)) (λ s. enclosed_depths (term_depths l s)) K u e
argument_into l K u e a =
    let t = a.after in
    let c = t.after in
    record {
      tree = t.tree;
      ok = t.ok;
      v = c.v;
      f = c.f;
      spelt = cc (a.spelt, t.spelt, c.spelt, append_assoc (term_text t.tree) ('close' ∷ []) c.v);
      marked = cc (a.marked, t.marked, c.marked, append_assoc (term_depths l t.tree) (0 ∷ []) c.f);
      after = c.after;
    }

argument_out : (l : ℕ) (K : Language) (s : Term) → TermNamed s → (v f : List ℕ) → K v f → Argument l K (enclosed (term_text s) ++ v) (enclosed_depths (term_depths l s) ++ f)
argument_out l K s ok v f k =
    record {
      tree = tt;
      ok = tt;
      v = (term_text s ++ ('close' ∷ [])) ++ v;
      f = (term_depths l s ++ (0 ∷ [])) ++ f;
      spelt = refl;
      marked = refl;
      after = record {
        tree = s;
        ok = ok;
        v = 'close' ∷ v;
        f = 0 ∷ f;
        spelt = append_assoc (term_text s) ('close' ∷ []) v;
        marked = append_assoc (term_depths l s) (0 ∷ []) f;
        after = record { tree = tt; ok = tt; v = v; f = f; spelt = refl; marked = refl; after = k };
      };
    }

abbrev BothNamed : Term × Term → Type 0
BothNamed p = TermNamed p.0 × TermNamed p.1

abbrev both_text : Term × Term → List ℕ
both_text p = paired (term_text p.0) (term_text p.1)

abbrev both_depths : ℕ → Term × Term → List ℕ
both_depths l p = paired_depths (term_depths l p.0) (term_depths l p.1)

-- texts s and t with the bytes c and d behind them, and v behind all
regroup : (s t : List ℕ) (c d : ℕ) (v : List ℕ) → (s ++ (c ∷ (t ++ (d ∷ [])))) ++ v ≡ s ++ (c ∷ (t ++ (d ∷ v)))
regroup s t c d v = simp append_assoc

arguments_into : (l : ℕ) (K : Language) (u e : List ℕ) → Arguments l K u e → Then BothNamed both_text (both_depths l) K u e
arguments_into l K u e a =
    let s = a.after in
    let c = s.after in
    let t = c.after in
    let d = t.after in
    record {
      tree = (s.tree, t.tree);
      ok = (s.ok, t.ok);
      v = d.v;
      f = d.f;
      spelt = cc (a.spelt, s.spelt, c.spelt, t.spelt, d.spelt, regroup (term_text s.tree) (term_text t.tree) 'comma' 'close' d.v);
      marked = cc (a.marked, s.marked, c.marked, t.marked, d.marked, regroup (term_depths l s.tree) (term_depths l t.tree) 0 0 d.f);
      after = d.after;
    }

arguments_out : (l : ℕ) (K : Language) (s t : Term) → TermNamed s → TermNamed t → (v f : List ℕ) → K v f → Arguments l K (paired (term_text s) (term_text t) ++ v) (paired_depths (term_depths l s) (term_depths l t) ++ f)
arguments_out l K s t ok ok' v f k =
    record {
      tree = tt;
      ok = tt;
      v = (term_text s ++ ('comma' ∷ (term_text t ++ ('close' ∷ [])))) ++ v;
      f = (term_depths l s ++ (0 ∷ (term_depths l t ++ (0 ∷ [])))) ++ f;
      spelt = refl;
      marked = refl;
      after = record {
        tree = s;
        ok = ok;
        v = 'comma' ∷ (term_text t ++ ('close' ∷ v));
        f = 0 ∷ (term_depths l t ++ (0 ∷ f));
        spelt = regroup (term_text s) (term_text t) 'comma' 'close' v;
        marked = regroup (term_depths l s) (term_depths l t) 0 0 f;
        after = record {
          tree = tt;
          ok = tt;
          v = term_text t ++ ('close' ∷ v);
          f = term_depths l t ++ (0 ∷ f);
          spelt = refl;
          marked = refl;
          after = record {
            tree = t;
            ok = ok';
            v = 'close' ∷ v;
            f = 0 ∷ f;
            spelt = refl;
            marked = refl;
            after = record { tree = tt; ok = tt; v = v; f = f; spelt = refl; marked = refl; after = k };
          };
        };
      };
    }

-- Terms: a head, a digit, and what stands behind these.

abbrev Behind : Head → ℕ → Language → Language
Behind head_variable l K = K
Behind head_constant l K = K
Behind head_apply1 l K = Argument (suc l) K
Behind head_apply2 l K = Arguments (suc l) K

abbrev Headed : Head → ℕ → Language → Language
Headed h l K = One {A = Unit {0}} (λ _. Unit {0}) (λ _. head_byte h) l (Digit (Behind h l K))

headed_into : (h : Head) (l : ℕ) (K : Language) (u e : List ℕ) → Headed h l K u e → TermAt l K u e
headed_into head_variable l K u e q =
    let d = q.after in
    record { tree = variable d.tree; ok = d.ok; v = d.v; f = d.f; spelt = cc (q.spelt, d.spelt); marked = cc (q.marked, d.marked); after = d.after }
headed_into head_constant l K u e q =
    let d = q.after in
    record { tree = constant d.tree; ok = d.ok; v = d.v; f = d.f; spelt = cc (q.spelt, d.spelt); marked = cc (q.marked, d.marked); after = d.after }
headed_into head_apply1 l K u e q =
    let d = q.after in
    let a = argument_into (suc l) K d.v d.f d.after in
    record { tree = apply1 d.tree a.tree; ok = (d.ok, a.ok); v = a.v; f = a.f; spelt = cc (q.spelt, d.spelt, a.spelt); marked = cc (q.marked, d.marked, a.marked); after = a.after }
headed_into head_apply2 l K u e q =
    let d = q.after in
    let a = arguments_into (suc l) K d.v d.f d.after in
    record { tree = apply2 d.tree a.tree.0 a.tree.1; ok = (d.ok, a.ok.0, a.ok.1); v = a.v; f = a.f; spelt = cc (q.spelt, d.spelt, a.spelt); marked = cc (q.marked, d.marked, a.marked); after = a.after }

headed : (h : Head) (l : ℕ) (K : Language) (d : ℕ) → d < names → (v f : List ℕ) → Behind h l K v f → (u e : List ℕ) → u ≡ head_byte h ∷ digit d ∷ v → e ≡ l ∷ 0 ∷ f → Headed h l K u e
headed h l K d ok v f k u e p q =
    record {
      tree = tt;
      ok = tt;
      v = digit d ∷ v;
      f = 0 ∷ f;
      spelt = p;
      marked = q;
      after = record { tree = d; ok = ok; v = v; f = f; spelt = refl; marked = refl; after = k };
    }

headed_out : (l : ℕ) (K : Language) (t : Term) → TermNamed t → (v f u e : List ℕ) → u ≡ term_text t ++ v → e ≡ term_depths l t ++ f → K v f → (h : Head) × Headed h l K u e
headed_out l K (variable x) ok v f u e p q k = (head_variable, headed head_variable l K x ok v f k u e p q)
headed_out l K (constant c) ok v f u e p q k = (head_constant, headed head_constant l K c ok v f k u e p q)
headed_out l K (apply1 g s) ok v f u e p q k =
    (head_apply1, headed head_apply1 l K g ok.0 (enclosed (term_text s) ++ v) (enclosed_depths (term_depths (suc l) s) ++ f) (argument_out (suc l) K s ok.1 v f k) u e p q)
headed_out l K (apply2 g s t) ok v f u e p q k =
    (head_apply2, headed head_apply2 l K g ok.0 (paired (term_text s) (term_text t) ++ v) (paired_depths (term_depths (suc l) s) (term_depths (suc l) t) ++ f) (arguments_out (suc l) K s t ok.1 ok.2 v f k) u e p q)

out_of_term : (l : ℕ) (K : Language) (u e : List ℕ) → TermAt l K u e → (h : Head) × Headed h l K u e
out_of_term l K u e p = headed_out l K p.tree p.ok p.v p.f u e p.spelt p.marked p.after

-- the head with a byte
abbrev head_with : ℕ → Head
head_with b = cond (eqb b 'x') head_variable (cond (eqb b 'c') head_constant (cond (eqb b 'f') head_apply1 head_apply2))

head_back : (h : Head) → head_with (head_byte h) ≡ h
head_back head_variable = refl
head_back head_constant = refl
head_back head_apply1 = refl
head_back head_apply2 = refl

same_head : (h g : Head) → head_byte h ≡ head_byte g → h ≡ g
same_head h g e = sym (head_back h) ∙ ap head_with e ∙ head_back g

head_left : (h : Head) (l : ℕ) (K : Language) → Left (TermAt l K) (head_byte h ∷ []) (l ∷ []) (Digit (Behind h l K))
head_left h l K =
    record {
      make = λ u e k. headed_into h l K (head_byte h ∷ u) (l ∷ e) (record { tree = tt; ok = tt; v = u; f = e; spelt = refl; marked = refl; after = k });
      split = λ u e p.
          let o = out_of_term l K (head_byte h ∷ u) e p in
          let q = o.1 in
          let first : head_byte o.0 ≡ head_byte h = cc q.spelt in
          let tail : q.v ≡ u = cc q.spelt in
          let moved : Digit (Behind o.0 l K) u q.f = subst (λ z. Digit (Behind o.0 l K) z q.f) tail q.after in
          (q.f, q.marked, subst (λ z. Digit (Behind z l K) u q.f) (same_head o.0 h first) moved);
    }

term_some : (l : ℕ) (K : Language) (e : List ℕ) → TermAt l K [] e → ⊥
term_some l K e p = let o = out_of_term l K [] e p in omega (arith, ap length o.1.spelt)

no_head : (b : ℕ) (h : Head) → b ≡ head_byte h → eqb b 'x' ≡ false → eqb b 'c' ≡ false → eqb b 'f' ≡ false → eqb b 'g' ≡ false → ⊥
no_head b head_variable e x c f g = eqb-false b 'x' x e
no_head b head_constant e x c f g = eqb-false b 'c' c e
no_head b head_apply1 e x c f g = eqb-false b 'f' f e
no_head b head_apply2 e x c f g = eqb-false b 'g' g e

-- Formulas: an opening, and what stands behind it.

abbrev Rest : Opening → ℕ → Language → Language
Rest open_pred0 l K = Digit K
Rest open_pred1 l K = Digit (Argument (suc l) K)
Rest open_pred2 l K = Digit (Arguments (suc l) K)
Rest open_negation l K = FormulaAt (suc l) K
Rest open_binary l K = FormulaAt (suc l) (Joint (FormulaAt (suc l) (Byte 'close' K)))
Rest (open_quantified q) l K = Byte 'x' (Digit (FormulaAt (suc l) K))

abbrev Opened : Opening → ℕ → Language → Language
Opened o l K = One {A = Unit {0}} (λ _. Unit {0}) (λ _. opening_byte o) l (Rest o l K)

opened_into : (o : Opening) (l : ℕ) (K : Language) (u e : List ℕ) → Opened o l K u e → FormulaAt l K u e
opened_into open_pred0 l K u e q =
    let d = q.after in
    record { tree = pred0 d.tree; ok = d.ok; v = d.v; f = d.f; spelt = cc (q.spelt, d.spelt); marked = cc (q.marked, d.marked); after = d.after }
opened_into open_pred1 l K u e q =
    let d = q.after in
    let a = argument_into (suc l) K d.v d.f d.after in
    record { tree = pred1 d.tree a.tree; ok = (d.ok, a.ok); v = a.v; f = a.f; spelt = cc (q.spelt, d.spelt, a.spelt); marked = cc (q.marked, d.marked, a.marked); after = a.after }
opened_into open_pred2 l K u e q =
    let d = q.after in
    let a = arguments_into (suc l) K d.v d.f d.after in
    record { tree = pred2 d.tree a.tree.0 a.tree.1; ok = (d.ok, a.ok.0, a.ok.1); v = a.v; f = a.f; spelt = cc (q.spelt, d.spelt, a.spelt); marked = cc (q.marked, d.marked, a.marked); after = a.after }
opened_into open_negation l K u e q =
    let a = q.after in
    record { tree = negation a.tree; ok = a.ok; v = a.v; f = a.f; spelt = cc (q.spelt, a.spelt); marked = cc (q.marked, a.marked); after = a.after }
opened_into open_binary l K u e q =
    let a = q.after in
    let k = a.after in
    let b = k.after in
    let c = b.after in
    record {
      tree = binary k.tree a.tree b.tree;
      ok = (a.ok, b.ok);
      v = c.v;
      f = c.f;
      spelt = cc (q.spelt, a.spelt, k.spelt, b.spelt, c.spelt, regroup (text a.tree) (text b.tree) (joint k.tree) 'close' c.v);
      marked = cc (q.marked, a.marked, k.marked, b.marked, c.marked, regroup (depths (suc l) a.tree) (depths (suc l) b.tree) 0 0 c.f);
      after = c.after;
    }
opened_into (open_quantified w) l K u e q =
    let x = q.after in
    let d = x.after in
    let a = d.after in
    record {
      tree = quantified w d.tree a.tree;
      ok = (d.ok, a.ok);
      v = a.v;
      f = a.f;
      spelt = cc (q.spelt, x.spelt, d.spelt, a.spelt);
      marked = cc (q.marked, x.marked, d.marked, a.marked);
      after = a.after;
    }

opened : (o : Opening) (l : ℕ) (K : Language) (v f : List ℕ) → Rest o l K v f → (u e : List ℕ) → u ≡ opening_byte o ∷ v → e ≡ l ∷ f → Opened o l K u e
opened o l K v f k u e p q = record { tree = tt; ok = tt; v = v; f = f; spelt = p; marked = q; after = k }

-- a digit, and then a text of K
numbered : (K : Language) (d : ℕ) → d < names → (v f : List ℕ) → K v f → Digit K (digit d ∷ v) (0 ∷ f)
numbered K d ok v f k = record { tree = d; ok = ok; v = v; f = f; spelt = refl; marked = refl; after = k }

opened_out : (l : ℕ) (K : Language) (a : Formula) → Named a → (v f u e : List ℕ) → u ≡ text a ++ v → e ≡ depths l a ++ f → K v f → (o : Opening) × Opened o l K u e
opened_out l K (pred0 p) ok v f u e s m k = (open_pred0, opened open_pred0 l K (digit p ∷ v) (0 ∷ f) (numbered K p ok v f k) u e s m)
opened_out l K (pred1 p t) ok v f u e s m k =
    (open_pred1, opened open_pred1 l K _ _ (numbered (Argument (suc l) K) p ok.0 _ _ (argument_out (suc l) K t ok.1 v f k)) u e s m)
opened_out l K (pred2 p t w) ok v f u e s m k =
    (open_pred2, opened open_pred2 l K _ _ (numbered (Arguments (suc l) K) p ok.0 _ _ (arguments_out (suc l) K t w ok.1 ok.2 v f k)) u e s m)
opened_out l K (negation a) ok v f u e s m k =
    (open_negation, opened open_negation l K (text a ++ v) (depths (suc l) a ++ f) (record { tree = a; ok = ok; v = v; f = f; spelt = refl; marked = refl; after = k }) u e s m)
opened_out l K (binary c a b) ok v f u e s m k = (
  open_binary,
  opened open_binary l K (text a ++ (joint c ∷ (text b ++ ('close' ∷ v)))) (depths (suc l) a ++ (0 ∷ (depths (suc l) b ++ (0 ∷ f))))
      (record {
        tree = a;
        ok = ok.0;
        v = joint c ∷ (text b ++ ('close' ∷ v));
        f = 0 ∷ (depths (suc l) b ++ (0 ∷ f));
        spelt = refl;
        marked = refl;
        after = record {
          tree = c;
          ok = tt;
          v = text b ++ ('close' ∷ v);
          f = depths (suc l) b ++ (0 ∷ f);
          spelt = refl;
          marked = refl;
          after = record {
            tree = b;
            ok = ok.1;
            v = 'close' ∷ v;
            f = 0 ∷ f;
            spelt = refl;
            marked = refl;
            after = record { tree = tt; ok = tt; v = v; f = f; spelt = refl; marked = refl; after = k };
          };
        };
      })
      u e (s ∙ ap (λ (z : List ℕ). 'open' ∷ z) (regroup (text a) (text b) (joint c) 'close' v)) (m ∙ ap (λ (z : List ℕ). l ∷ z) (regroup (depths (suc l) a) (depths (suc l) b) 0 0 f)),
)
opened_out l K (quantified q x a) ok v f u e s m k = (
  open_quantified q,
  opened (open_quantified q) l K ('x' ∷ digit x ∷ (text a ++ v)) (0 ∷ 0 ∷ (depths (suc l) a ++ f))
      (record {
        tree = tt;
        ok = tt;
        v = digit x ∷ (text a ++ v);
        f = 0 ∷ (depths (suc l) a ++ f);
        spelt = refl;
        marked = refl;
        after = numbered (FormulaAt (suc l) K) x ok.0 (text a ++ v) (depths (suc l) a ++ f) (record { tree = a; ok = ok.1; v = v; f = f; spelt = refl; marked = refl; after = k });
      })
      u e s m,
)

out_of_formula : (l : ℕ) (K : Language) (u e : List ℕ) → FormulaAt l K u e → (o : Opening) × Opened o l K u e
out_of_formula l K u e p = opened_out l K p.tree p.ok p.v p.f u e p.spelt p.marked p.after

-- the opening with a byte
abbrev opening_with : ℕ → Opening
opening_with b =
    cond (eqb b 'p') open_pred0 (cond (eqb b 'q') open_pred1 (cond (eqb b 'r') open_pred2 (cond (eqb b '-') open_negation
    (cond (eqb b 'open') open_binary (cond (eqb b 'A') (open_quantified every) (open_quantified some))))))

opening_back : (o : Opening) → opening_with (opening_byte o) ≡ o
opening_back open_pred0 = refl
opening_back open_pred1 = refl
opening_back open_pred2 = refl
opening_back open_negation = refl
opening_back open_binary = refl
opening_back (open_quantified every) = refl
opening_back (open_quantified some) = refl

same_opening : (o n : Opening) → opening_byte o ≡ opening_byte n → o ≡ n
same_opening o n e = sym (opening_back o) ∙ ap opening_with e ∙ opening_back n

opening_left : (o : Opening) (l : ℕ) (K : Language) → Left (FormulaAt l K) (opening_byte o ∷ []) (l ∷ []) (Rest o l K)
opening_left o l K =
    record {
      make = λ u e k. opened_into o l K (opening_byte o ∷ u) (l ∷ e) (record { tree = tt; ok = tt; v = u; f = e; spelt = refl; marked = refl; after = k });
      split = λ u e p.
          let n = out_of_formula l K (opening_byte o ∷ u) e p in
          let q = n.1 in
          let first : opening_byte n.0 ≡ opening_byte o = cc q.spelt in
          let tail : q.v ≡ u = cc q.spelt in
          let moved : Rest n.0 l K u q.f = subst (λ z. Rest n.0 l K z q.f) tail q.after in
          (q.f, q.marked, subst (λ z. Rest z l K u q.f) (same_opening n.0 o first) moved);
    }

formula_some : (l : ℕ) (K : Language) (e : List ℕ) → FormulaAt l K [] e → ⊥
formula_some l K e p = let o = out_of_formula l K [] e p in omega (arith, ap length o.1.spelt)

no_opening : (b : ℕ) (o : Opening) → b ≡ opening_byte o → eqb b 'p' ≡ false → eqb b 'q' ≡ false → eqb b 'r' ≡ false → eqb b '-' ≡ false → eqb b 'open' ≡ false → eqb b 'A' ≡ false → eqb b 'E' ≡ false → ⊥
no_opening b open_pred0 i p q r n o a e = eqb-false b 'p' p i
no_opening b open_pred1 i p q r n o a e = eqb-false b 'q' q i
no_opening b open_pred2 i p q r n o a e = eqb-false b 'r' r i
no_opening b open_negation i p q r n o a e = eqb-false b '-' n i
no_opening b open_binary i p q r n o a e = eqb-false b 'open' o i
no_opening b (open_quantified every) i p q r n o a e = eqb-false b 'A' a i
no_opening b (open_quantified some) i p q r n o a e = eqb-false b 'E' e i

no_joint : (b : ℕ) (k : Connective) → b ≡ joint k → eqb b '&' ≡ false → eqb b '|' ≡ false → eqb b '>' ≡ false → ⊥
no_joint b conjunction e x y z = eqb-false b '&' x e
no_joint b disjunction e x y z = eqb-false b '|' y e
no_joint b implication e x y z = eqb-false b '>' z e

digit_range : (b : ℕ) → (leb 48 b && ltb b 56) ≡ true → (48 ≤ b) × (b < 56)
digit_range b t = let both = and_parts (leb 48 b) (ltb b 56) t in (leb-true 48 b both.0, ltb-true b 56 both.1)

no_digit : (b d : ℕ) → b ≡ digit d → d < names → (leb 48 b && ltb b 56) ≡ false → ⊥
no_digit b d e l t = let z : (leb 48 b && ltb b 56) ≡ true = grind (arith, nat_tests) in both_ways (leb 48 b && ltb b 56) t z

module _ (most : ℕ) (bytes : List ℕ) where
  -- what a reader of one byte, digit or connective owes

  abbrev Here : ℕ → ℕ → Type 0
  Here at b = drop at bytes ≡ b ∷ drop (at + 1) bytes

  one_taken : {A : Type 0} (named : A → Type 0) (byte_of : A → ℕ) (K : Language) (a : A) (at n b : ℕ) → n ≤ most → named a → Here at b → b ≡ byte_of a → Passes most bytes (One named byte_of 0 K) at n K (at + 1) n
  one_taken named byte_of K a at n b few ok here e =
      takes most bytes (One named byte_of 0 K) K at n (byte_of a) few (subst (λ z. Here at z) e here) (one_left named byte_of 0 K a ok)

  byte_serves : (test : ℕ → Bool) (w : ℕ) → ((b : ℕ) → test b ≡ eqb b w) → (K : Language) (at n : ℕ) → n ≤ most → Alive K → Serves most bytes {A = Unit {0}} (Byte w K) (λ _. K) at n (with_byte bytes at (λ b. cond (test b) (got tt (at + 1) n) (bad not_allowed at)))
  byte_serves test w only K at n few alive =
      let L : Language = Byte w K in
      let live : Alive L = then_alive _ _ _ K tt tt alive in
      serves_byte most bytes L (λ _. K) at n _ few live (one_some _ _ 0 K)
      (λ b here. cond_both (test b) (got tt (at + 1) n) (bad not_allowed at) (Serves most bytes L (λ _. K) at n)
      (λ t. one_taken _ (λ _. w) K tt at n b few tt here (eqb-true b w (sym (only b) ∙ t)))
      (λ t. refuses most bytes L at n b few live (one_some _ _ 0 K) here (λ u e q. eqb-false b w (sym (only b) ∙ t) (one_first _ (λ _. w) 0 K b u e q))))

  open_serves : (K : Language) (at n : ℕ) → n ≤ most → Alive K → Serves most bytes (Byte 'open' K) (λ _. K) at n (sign opens bytes at n)
  open_serves = byte_serves (λ b. is (class_of b) opens) 'open' is_opens

  close_serves : (K : Language) (at n : ℕ) → n ≤ most → Alive K → Serves most bytes (Byte 'close' K) (λ _. K) at n (sign closes bytes at n)
  close_serves = byte_serves (λ b. is (class_of b) closes) 'close' is_closes

  comma_serves : (K : Language) (at n : ℕ) → n ≤ most → Alive K → Serves most bytes (Byte 'comma' K) (λ _. K) at n (sign commas bytes at n)
  comma_serves = byte_serves (λ b. is (class_of b) commas) 'comma' is_commas

  digit_alive : (K : Language) → Alive K → Alive (Digit K)
  digit_alive K k = then_alive _ _ _ K 0 (omega arith) k

  name_serves : (K : Language) (at n : ℕ) → n ≤ most → Alive K → Serves most bytes (Digit K) (λ _. K) at n (name bytes at n)
  name_serves K at n few alive =
      let live : Alive (Digit K) = digit_alive K alive in
      serves_byte most bytes (Digit K) (λ _. K) at n _ few live (one_some _ _ 0 K)
      (λ b here. cond_both (is (class_of b) digits) (got (b - 48) (at + 1) n) (bad not_allowed at) (Serves most bytes (Digit K) (λ _. K) at n)
      (λ t. let r = digit_range b (sym (is_digits b) ∙ t) in one_taken _ digit K (b - 48) at n b few (omega arith) here (omega arith))
      (λ t. refuses most bytes (Digit K) at n b few live (one_some _ _ 0 K) here (λ u e q. no_digit b q.tree (one_first _ digit 0 K b u e q) q.ok (sym (is_digits b) ∙ t))))

  connective_serves : (K : Language) (at n : ℕ) → n ≤ most → Alive K → Serves most bytes (Joint K) (λ _. K) at n (connective bytes at n)
  connective_serves K at n few alive =
      let live : Alive (Joint K) = then_alive _ _ _ K conjunction tt alive in
      let S : Out Connective → Type 0 = Serves most bytes (Joint K) (λ _. K) at n in
      serves_byte most bytes (Joint K) (λ _. K) at n (connective_at at n) few live (one_some _ _ 0 K)
      (λ b here.
      cond_both (eqb b '&') _ _ S (λ t. one_taken (λ _. Unit {0}) joint K conjunction at n b few tt here (eqb-true b '&' t))
      (λ t1. cond_both (eqb b '|') _ _ S (λ t. one_taken (λ _. Unit {0}) joint K disjunction at n b few tt here (eqb-true b '|' t))
      (λ t2. cond_both (eqb b '>') _ _ S (λ t. one_taken (λ _. Unit {0}) joint K implication at n b few tt here (eqb-true b '>' t))
      (λ t3. refuses most bytes (Joint K) at n b few live (one_some _ _ 0 K) here (λ u e q. no_joint b q.tree (one_first (λ _. Unit {0}) joint 0 K b u e q) t1 t2 t3)))))

  bound_serves : (K : Language) (at n : ℕ) → n ≤ most → Alive K → Serves most bytes (Byte 'x' (Digit K)) (λ _. K) at n (bound bytes at n)
  bound_serves K at n few alive =
      serves_bind most bytes (Byte 'x' (Digit K)) (λ _. Digit K) (λ _. K) at n _ (λ _. name bytes)
      (byte_serves (λ b. eqb b 'x') 'x' (λ b. refl) (Digit K) at n few (digit_alive K alive))
      (λ _ i m h. name_serves K i m h alive)

  -- Terms.

  term_alive : (l : ℕ) (K : Language) → Alive K → Alive (TermAt l K)
  term_alive l K k = then_alive _ _ _ K (constant 0) (omega arith) k

  byte_alive : (w : ℕ) (K : Language) → Alive K → Alive (Byte w K)
  byte_alive w K k = then_alive _ _ _ K tt tt k

  behind_alive : (h : Head) (l : ℕ) (K : Language) → Alive K → Alive (Behind h l K)
  behind_alive head_variable l K k = k
  behind_alive head_constant l K k = k
  behind_alive head_apply1 l K k = byte_alive _ _ (term_alive _ _ (byte_alive _ _ k))
  behind_alive head_apply2 l K k = byte_alive _ _ (term_alive _ _ (byte_alive _ _ (term_alive _ _ (byte_alive _ _ k))))

  head_serves : (l left : ℕ) → 0 < l → l + left ≡ suc most_levels → (K : Language) (at n : ℕ) → n ≤ most → Alive K → Serves most bytes (TermAt l K) (λ h. Digit (Behind h l K)) at n (head most left bytes at n)
  head_serves l left pos sum K at n few alive =
      let L : Language = TermAt l K in
      let live : Alive L = term_alive l K alive in
      let S : Out Head → Type 0 = Serves most bytes L (λ h. Digit (Behind h l K)) at n in
      let begins : (h : Head) (b : ℕ) → Here at b → b ≡ head_byte h → S (part most h left at n) = λ h b here e.
      serves_part most bytes L (λ h. Digit (Behind h l K)) h at n (head_byte h) l left few (subst (λ z. Here at z) e here) pos sum (digit_alive _ (behind_alive h l K alive)) (head_left h l K) in
      serves_byte most bytes L (λ h. Digit (Behind h l K)) at n (head_at most left at n) few live (term_some l K)
      (λ b here.
      cond_both (eqb b 'x') _ _ S (λ t. begins head_variable b here (eqb-true b 'x' t))
      (λ t1. cond_both (eqb b 'c') _ _ S (λ t. begins head_constant b here (eqb-true b 'c' t))
      (λ t2. cond_both (eqb b 'f') _ _ S (λ t. begins head_apply1 b here (eqb-true b 'f' t))
      (λ t3. cond_both (eqb b 'g') _ _ S (λ t. begins head_apply2 b here (eqb-true b 'g' t))
      (λ t4. refuses most bytes L at n b few live (term_some l K) here
      (λ u e p. let o = out_of_term l K (b ∷ u) e p in no_head b o.0 (one_first _ (λ _. head_byte o.0) l (Digit (Behind o.0 l K)) b u e o.1) t1 t2 t3 t4))))))

  -- a reader of terms at the level l, whatever is to be read behind it
  abbrev Reader : ℕ → (ℕ → ℕ → Out Term) → Type 1
  Reader l rec = (K : Language) (at n : ℕ) → n ≤ most → Alive K → Serves most bytes (TermAt l K) (λ _. K) at n (rec at n)

  argument_serves : (l : ℕ) (rec : ℕ → ℕ → Out Term) → Reader l rec → (K : Language) (at n : ℕ) → n ≤ most → Alive K → Serves most bytes (Argument l K) (λ _. K) at n (argument rec bytes at n)
  argument_serves l rec ih K at n few alive =
      let c : Alive (Byte 'close' K) = byte_alive _ _ alive in
      serves_bind most bytes _ (λ _. TermAt l (Byte 'close' K)) (λ _. K) at n _ _ (open_serves _ at n few (term_alive l _ c))
      (λ _ i m h. serves_bind most bytes _ (λ _. Byte 'close' K) (λ _. K) i m _ _ (ih _ i m h c)
      (λ s i m h. serves_bind most bytes _ (λ _. K) (λ _. K) i m _ _ (close_serves K i m h alive)
      (λ _ i m h. stay most bytes K i m h)))

  arguments_serves : (l : ℕ) (rec : ℕ → ℕ → Out Term) → Reader l rec → (K : Language) (at n : ℕ) → n ≤ most → Alive K → Serves most bytes (Arguments l K) (λ _. K) at n (arguments rec bytes at n)
  arguments_serves l rec ih K at n few alive =
      let c : Alive (Byte 'close' K) = byte_alive _ _ alive in
      let t : Alive (TermAt l (Byte 'close' K)) = term_alive l _ c in
      let m : Alive (Byte 'comma' (TermAt l (Byte 'close' K))) = byte_alive _ _ t in
      serves_bind most bytes _ (λ _. TermAt l (Byte 'comma' (TermAt l (Byte 'close' K)))) (λ _. K) at n _ _ (open_serves _ at n few (term_alive l _ m))
      (λ _ i p h. serves_bind most bytes _ (λ _. Byte 'comma' (TermAt l (Byte 'close' K))) (λ _. K) i p _ _ (ih _ i p h m)
      (λ s i p h. serves_bind most bytes _ (λ _. TermAt l (Byte 'close' K)) (λ _. K) i p _ _ (comma_serves _ i p h t)
      (λ _ i p h. serves_bind most bytes _ (λ _. Byte 'close' K) (λ _. K) i p _ _ (ih _ i p h c)
      (λ s i p h. serves_bind most bytes _ (λ _. K) (λ _. K) i p _ _ (close_serves K i p h alive)
      (λ _ i p h. stay most bytes K i p h)))))

  applied_serves : (l : ℕ) (rec : ℕ → ℕ → Out Term) → Reader (suc l) rec → (h : Head) (d : ℕ) (K : Language) (at n : ℕ) → n ≤ most → Alive K → Serves most bytes (Behind h l K) (λ _. K) at n (applied rec h d bytes at n)
  applied_serves l rec ih head_variable d K at n few alive = stay most bytes K at n few
  applied_serves l rec ih head_constant d K at n few alive = stay most bytes K at n few
  applied_serves l rec ih head_apply1 d K at n few alive =
      serves_bind most bytes _ (λ _. K) (λ _. K) at n _ _ (argument_serves (suc l) rec ih K at n few alive) (λ s i m h. stay most bytes K i m h)
  applied_serves l rec ih head_apply2 d K at n few alive =
      serves_bind most bytes _ (λ _. K) (λ _. K) at n _ _ (arguments_serves (suc l) rec ih K at n few alive) (λ s i m h. stay most bytes K i m h)

  head_level : (h : Head) (left at n i m : ℕ) → head most left bytes at n ≡ got h i m → 0 < left
  head_level h left at n i m e = grind (arith, nat_tests)

  term_by_serves : (l left : ℕ) (rec : ℕ → ℕ → Out Term) → 0 < l → l + left ≡ suc most_levels → (0 < left → Reader (suc l) rec) → Reader l (term_by rec most left bytes)
  term_by_serves l left rec pos sum ih K at n few alive =
      serves_step most bytes (TermAt l K) (λ h. Digit (Behind h l K)) (λ _. K) at n (head most left bytes at n) _ (head_serves l left pos sum K at n few alive)
      (λ h i m e few1. serves_bind most bytes (Digit (Behind h l K)) (λ _. Behind h l K) (λ _. K) i m (name bytes i m) _ (name_serves (Behind h l K) i m few1 (behind_alive h l K alive))
      (λ d i2 m2 few2. applied_serves l rec (ih (head_level h left at n i m e)) h d K i2 m2 few2 alive))

  pub term_serves : (left l : ℕ) → 0 < l → l + left ≡ suc most_levels → Reader l (read_term most left bytes)
  term_serves zero l pos sum = term_by_serves l 0 (λ at n. bad too_deep at) pos sum (λ z. absurd (omega arith))
  term_serves (suc left) l pos sum = term_by_serves l (suc left) (read_term most left bytes) pos sum (λ _. term_serves left (suc l) (omega arith) (omega arith))

  -- Formulas.

  formula_alive : (l : ℕ) (K : Language) → Alive K → Alive (FormulaAt l K)
  formula_alive l K k = then_alive _ _ _ K (pred0 0) (omega arith) k

  joint_alive : (K : Language) → Alive K → Alive (Joint K)
  joint_alive K k = then_alive _ _ _ K conjunction tt k

  rest_alive : (o : Opening) (l : ℕ) (K : Language) → Alive K → Alive (Rest o l K)
  rest_alive open_pred0 l K k = digit_alive _ k
  rest_alive open_pred1 l K k = digit_alive _ (behind_alive head_apply1 l K k)
  rest_alive open_pred2 l K k = digit_alive _ (behind_alive head_apply2 l K k)
  rest_alive open_negation l K k = formula_alive _ _ k
  rest_alive open_binary l K k = formula_alive _ _ (joint_alive _ (formula_alive _ _ (byte_alive _ _ k)))
  rest_alive (open_quantified q) l K k = byte_alive _ _ (digit_alive _ (formula_alive _ _ k))

  opening_serves : (l left : ℕ) → 0 < l → l + left ≡ suc most_levels → (K : Language) (at n : ℕ) → n ≤ most → Alive K → Serves most bytes (FormulaAt l K) (λ o. Rest o l K) at n (opening most left bytes at n)
  opening_serves l left pos sum K at n few alive =
      let L : Language = FormulaAt l K in
      let live : Alive L = formula_alive l K alive in
      let S : Out Opening → Type 0 = Serves most bytes L (λ o. Rest o l K) at n in
      let begins : (o : Opening) (b : ℕ) → Here at b → b ≡ opening_byte o → S (part most o left at n) = λ o b here e.
      serves_part most bytes L (λ o. Rest o l K) o at n (opening_byte o) l left few (subst (λ z. Here at z) e here) pos sum (rest_alive o l K alive) (opening_left o l K) in
      serves_byte most bytes L (λ o. Rest o l K) at n (opening_at most left at n) few live (formula_some l K)
      (λ b here.
      cond_both (eqb b 'p') _ _ S (λ t. begins open_pred0 b here (eqb-true b 'p' t))
      (λ t1. cond_both (eqb b 'q') _ _ S (λ t. begins open_pred1 b here (eqb-true b 'q' t))
      (λ t2. cond_both (eqb b 'r') _ _ S (λ t. begins open_pred2 b here (eqb-true b 'r' t))
      (λ t3. cond_both (eqb b '-') _ _ S (λ t. begins open_negation b here (eqb-true b '-' t))
      (λ t4. cond_both (eqb b 'open') _ _ S (λ t. begins open_binary b here (eqb-true b 'open' t))
      (λ t5. cond_both (eqb b 'A') _ _ S (λ t. begins (open_quantified every) b here (eqb-true b 'A' t))
      (λ t6. cond_both (eqb b 'E') _ _ S (λ t. begins (open_quantified some) b here (eqb-true b 'E' t))
      (λ t7. refuses most bytes L at n b few live (formula_some l K) here
      (λ u e p. let o = out_of_formula l K (b ∷ u) e p in no_opening b o.0 (one_first _ (λ _. opening_byte o.0) l (Rest o.0 l K) b u e o.1) t1 t2 t3 t4 t5 t6 t7)))))))))

  opening_level : (o : Opening) (left at n i m : ℕ) → opening most left bytes at n ≡ got o i m → 0 < left
  opening_level o left at n i m e = grind (arith, nat_tests)

  -- a reader of formulas at the level l, whatever is to be read behind it
  abbrev FormulaReader : ℕ → (ℕ → ℕ → Out Formula) → Type 1
  FormulaReader l rec = (K : Language) (at n : ℕ) → n ≤ most → Alive K → Serves most bytes (FormulaAt l K) (λ _. K) at n (rec at n)

  rest_serves : (l left : ℕ) (rec : ℕ → ℕ → Out Formula) → FormulaReader (suc l) rec → Reader (suc l) (read_term most left bytes) → (o : Opening) (K : Language) (at n : ℕ) → n ≤ most → Alive K → Serves most bytes (Rest o l K) (λ _. K) at n (rest rec most left o bytes at n)
  rest_serves l left rec ih ih' open_pred0 K at n few alive =
      serves_bind most bytes _ (λ _. K) (λ _. K) at n _ _ (name_serves K at n few alive) (λ d i m h. stay most bytes K i m h)
  rest_serves l left rec ih ih' open_pred1 K at n few alive =
      serves_bind most bytes _ (λ _. Argument (suc l) K) (λ _. K) at n _ _ (name_serves _ at n few (behind_alive head_apply1 l K alive))
      (λ d i m h. serves_bind most bytes _ (λ _. K) (λ _. K) i m _ _ (argument_serves (suc l) _ ih' K i m h alive) (λ s i m h. stay most bytes K i m h))
  rest_serves l left rec ih ih' open_pred2 K at n few alive =
      serves_bind most bytes _ (λ _. Arguments (suc l) K) (λ _. K) at n _ _ (name_serves _ at n few (behind_alive head_apply2 l K alive))
      (λ d i m h. serves_bind most bytes _ (λ _. K) (λ _. K) i m _ _ (arguments_serves (suc l) _ ih' K i m h alive) (λ s i m h. stay most bytes K i m h))
  rest_serves l left rec ih ih' open_negation K at n few alive =
      serves_bind most bytes _ (λ _. K) (λ _. K) at n _ _ (ih K at n few alive) (λ a i m h. stay most bytes K i m h)
  rest_serves l left rec ih ih' open_binary K at n few alive =
      let c : Alive (Byte 'close' K) = byte_alive _ _ alive in
      let b : Alive (FormulaAt (suc l) (Byte 'close' K)) = formula_alive _ _ c in
      serves_bind most bytes _ (λ _. Joint (FormulaAt (suc l) (Byte 'close' K))) (λ _. K) at n _ _ (ih _ at n few (joint_alive _ b))
      (λ a i m h. serves_bind most bytes _ (λ _. FormulaAt (suc l) (Byte 'close' K)) (λ _. K) i m _ _ (connective_serves _ i m h b)
      (λ k i m h. serves_bind most bytes _ (λ _. Byte 'close' K) (λ _. K) i m _ _ (ih _ i m h c)
      (λ a i m h. serves_bind most bytes _ (λ _. K) (λ _. K) i m _ _ (close_serves K i m h alive)
      (λ _ i m h. stay most bytes K i m h))))
  rest_serves l left rec ih ih' (open_quantified q) K at n few alive =
      serves_bind most bytes _ (λ _. FormulaAt (suc l) K) (λ _. K) at n _ _ (bound_serves _ at n few (formula_alive _ _ alive))
      (λ x i m h. serves_bind most bytes _ (λ _. K) (λ _. K) i m _ _ (ih K i m h alive) (λ a i m h. stay most bytes K i m h))

  formula_by_serves : (l left : ℕ) (rec : ℕ → ℕ → Out Formula) → 0 < l → l + left ≡ suc most_levels → (0 < left → FormulaReader (suc l) rec) → FormulaReader l (formula_by rec most left bytes)
  formula_by_serves l left rec pos sum ih K at n few alive =
      serves_step most bytes (FormulaAt l K) (λ o. Rest o l K) (λ _. K) at n (opening most left bytes at n) _ (opening_serves l left pos sum K at n few alive)
      (λ o i m e few1. let deep : 0 < left = opening_level o left at n i m e in
      rest_serves l (left - 1) rec (ih deep) (term_serves (left - 1) (suc l) (omega arith) (omega arith)) o K i m few1 alive)

  pub formula_serves : (left l : ℕ) → 0 < l → l + left ≡ suc most_levels → FormulaReader l (read_formula most left bytes)
  formula_serves zero l pos sum = formula_by_serves l 0 (λ at n. bad too_deep at) pos sum (λ z. absurd (omega arith))
  formula_serves (suc left) l pos sum = formula_by_serves l (suc left) (read_formula most left bytes) pos sum (λ _. formula_serves left (suc l) (omega arith) (omega arith))
