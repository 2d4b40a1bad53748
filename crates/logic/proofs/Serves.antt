-- A reader serves a language: it passes along a text of it, or stops where the bytes leave it or the limits. Assumes nothing.
use Rattle.std.proofs.Common.{◌≡◌, ℕ, zero, suc, ◌+◌, ◌<◌, ◌≤◌, max, cond, eqb, ltb, List, [], ◌∷◌, ◌++◌, length, get_or, drop, sym, refl, ap, ◌∙◌, append_assoc, arith, length-append}
use Rattle.std.proofs.lemmas.List.{drop_more, drop_all}
use Rattle.std.proofs.lemmas.Bool.{ltb-true, ltb-false, eqb-true, eqb-false, cond_both}
use Rattle.logic.specs.Text.{most_levels}
use Rattle.logic.specs.Depths.{begun, deepest}
use Rattle.logic.specs.Reading.{Misreading, not_allowed, ends_early, after_end, too_deep, too_many, Out, got, bad, bind, with_byte, part}
use Rattle.logic.proofs.Languages.{Language, Alive, Left, left_none, left_then}

pub begun_append : (d c : List ℕ) → begun (d ++ c) ≡ begun d + begun c
begun_append [] c = omega arith
begun_append (zero ∷ d) c = begun_append d c
begun_append (suc n ∷ d) c = ap suc (begun_append d c) ∙ omega arith

pub deepest_append : (d c : List ℕ) → deepest (d ++ c) ≡ max (deepest d) (deepest c)
deepest_append [] c = omega arith
deepest_append (n ∷ d) c = ap (max n) (deepest_append d c) ∙ omega arith

module _ (most : ℕ) (bytes : List ℕ) where
  -- from the place `at`, with n parts begun, to the place i, with m: the bytes between lead from L to K, within the limits
  pub record Passes (L : Language) (at n : ℕ) (K : Language) (i m : ℕ) : Type 0 where
    pub w : List ℕ
    pub d : List ℕ
    pub spelt : drop at bytes ≡ w ++ drop i bytes
    pub place : i ≡ at + length w
    pub marked : length d ≡ length w
    pub count : m ≡ n + begun d
    pub few : m ≤ most
    pub flat : deepest d ≤ most_levels
    pub along : Left L w d K

  pub stay : (L : Language) (at n : ℕ) → n ≤ most → Passes L at n L at n
  stay L at n h =
      record { w = []; d = []; spelt = refl; place = omega arith; marked = refl; count = omega arith; few = h; flat = omega arith; along = left_none L }

  pub go_on : (L M K : Language) (at n j p i m : ℕ) → Passes L at n M j p → Passes M j p K i m → Passes L at n K i m
  go_on L M K at n j p i m a b =
      record {
        w = a.w ++ b.w;
        d = a.d ++ b.d;
        spelt = a.spelt ∙ ap (λ (l : List ℕ). a.w ++ l) b.spelt ∙ sym (append_assoc a.w b.w (drop i bytes));
        place = omega (arith, length-append a.w b.w);
        marked = omega (arith, length-append a.w b.w, length-append a.d b.d, a.marked, b.marked);
        count = omega (arith, begun_append a.d b.d, a.count, b.count);
        few = b.few;
        flat = omega (arith, deepest_append a.d b.d, a.flat, b.flat);
        along = left_then L M K a.w a.d b.w b.d a.along b.along;
      }

  -- every text of L that begins with w has its parts there as d says
  abbrev Fixed : Language → List ℕ → List ℕ → Type 0
  Fixed L w d = (u f : List ℕ) → L (w ++ u) f → (g : List ℕ) × (f ≡ d ++ g)

  -- the byte b can follow w, and a part begins at it, at the level l in every text
  abbrev Begins : Language → List ℕ → List ℕ → ℕ → ℕ → Type 0
  Begins L w d b l = ((u : List ℕ) × (e : List ℕ) × L (w ++ (b ∷ u)) e) × ((u f : List ℕ) → L (w ++ (b ∷ u)) f → (g : List ℕ) × (f ≡ d ++ (l ∷ g)))

  -- what is wrong behind the bytes w, where parts began as d says and m in all, and r are the bytes from there on
  abbrev Stuck : Misreading → Language → List ℕ → List ℕ → ℕ → List ℕ → Type 0
  Stuck not_allowed L w d m r =
      (b : ℕ) × (s : List ℕ) × (r ≡ b ∷ s) × ((u e : List ℕ) → L (w ++ (b ∷ u)) e → ⊥) × ((e : List ℕ) → L (w ++ []) e → ⊥)
  Stuck ends_early L w d m r = (r ≡ []) × ((e : List ℕ) → L (w ++ []) e → ⊥)
  Stuck after_end L w d m r = ⊥
  Stuck too_deep L w d m r = (b : ℕ) × (s : List ℕ) × (r ≡ b ∷ s) × Begins L w d b (suc most_levels)
  Stuck too_many L w d m r =
      (b : ℕ) × (s : List ℕ) × (r ≡ b ∷ s) × (l : ℕ) × Begins L w d b l × (0 < l) × (l ≤ most_levels) × (m ≡ most)

  pub record Stops (L : Language) (at n : ℕ) (k : Misreading) (i : ℕ) : Type 0 where
    pub w : List ℕ
    pub d : List ℕ
    pub m : ℕ
    pub spelt : drop at bytes ≡ w ++ drop i bytes
    pub place : i ≡ at + length w
    pub marked : length d ≡ length w
    pub count : m ≡ n + begun d
    pub few : m ≤ most
    pub flat : deepest d ≤ most_levels
    pub alive : (u : List ℕ) × (e : List ℕ) × L (w ++ u) e
    pub fixed : Fixed L w d
    pub stuck : Stuck k L w d m (drop i bytes)

  -- a reader stops where it stands
  stops_here : (L : Language) (at n : ℕ) (k : Misreading) → n ≤ most → Alive L → Stuck k L [] [] n (drop at bytes) → Stops L at n k at
  stops_here L at n k few alive stuck =
      record {
        w = [];
        d = [];
        m = n;
        spelt = refl;
        place = omega arith;
        marked = refl;
        count = omega arith;
        few = few;
        flat = omega arith;
        alive = alive;
        fixed = λ u f h. (f, refl);
        stuck = stuck;
      }

  none_after : (L M : Language) (w d v u : List ℕ) → Left L w d M → ((e : List ℕ) → M (v ++ u) e → ⊥) → (e : List ℕ) → L ((w ++ v) ++ u) e → ⊥
  none_after L M w d v u p none e h = let a = p.split (v ++ u) e (rw (append_assoc w v u) at h) in none a.0 a.2

  -- from the parts behind w to those behind both
  fixed_after : (L M : Language) (w d v c u t f : List ℕ) → Left L w d M → ((f : List ℕ) → M (v ++ u) f → (g : List ℕ) × (f ≡ c ++ (t ++ g))) → L ((w ++ v) ++ u) f → (g : List ℕ) × (f ≡ (d ++ c) ++ (t ++ g))
  fixed_after L M w d v c u t f p k h =
      let a = p.split (v ++ u) f (rw (append_assoc w v u) at h) in
      let b = k a.0 a.2 in
      (b.0, a.1 ∙ ap (λ (l : List ℕ). d ++ l) b.1 ∙ sym (append_assoc d c (t ++ b.0)))

  made_after : (L M : Language) (w d v u e : List ℕ) → Left L w d M → M (v ++ u) e → L ((w ++ v) ++ u) (d ++ e)
  made_after L M w d v u e p h = rw (append_assoc w v u) (p.make (v ++ u) e h)

  begins_after : (L M : Language) (w d v c : List ℕ) (b l : ℕ) → Left L w d M → Begins M v c b l → Begins L (w ++ v) (d ++ c) b l
  begins_after L M w d v c b l p s = (
    (s.0.0, d ++ s.0.1, made_after L M w d v (b ∷ s.0.0) s.0.1 p s.0.2),
    λ u f h. fixed_after L M w d v c (b ∷ u) (l ∷ []) f p (s.1 u) h,
  )

  -- what is stuck behind v in what is left behind w, is stuck behind both
  stuck_after : (k : Misreading) (L M : Language) (w d v c : List ℕ) (m : ℕ) (r : List ℕ) → Left L w d M → Stuck k M v c m r → Stuck k L (w ++ v) (d ++ c) m r
  stuck_after not_allowed L M w d v c m r p s =
      (s.0, s.1, s.2, λ u. none_after L M w d v (s.0 ∷ u) p (s.3 u), none_after L M w d v [] p s.4)
  stuck_after ends_early L M w d v c m r p s = (s.0, none_after L M w d v [] p s.1)
  stuck_after after_end L M w d v c m r p s = s
  stuck_after too_deep L M w d v c m r p s = (s.0, s.1, s.2, begins_after L M w d v c s.0 (suc most_levels) p s.3)
  stuck_after too_many L M w d v c m r p s =
      (s.0, s.1, s.2, s.3, begins_after L M w d v c s.0 s.3 p s.4, s.5, s.6, s.7)

  stop_after : (L M : Language) (at n j p : ℕ) (k : Misreading) (i : ℕ) → Passes L at n M j p → Stops M j p k i → Stops L at n k i
  stop_after L M at n j p k i a b =
      record {
        w = a.w ++ b.w;
        d = a.d ++ b.d;
        m = b.m;
        spelt = a.spelt ∙ ap (λ (l : List ℕ). a.w ++ l) b.spelt ∙ sym (append_assoc a.w b.w (drop i bytes));
        place = omega (arith, length-append a.w b.w);
        marked = omega (arith, length-append a.w b.w, length-append a.d b.d, a.marked, b.marked);
        count = omega (arith, begun_append a.d b.d, a.count, b.count);
        few = b.few;
        flat = omega (arith, deepest_append a.d b.d, a.flat, b.flat);
        alive = let q = b.alive in (q.0, a.d ++ q.1, made_after L M a.w a.d b.w q.0 q.1 a.along q.2);
        fixed = λ u f h. fixed_after L M a.w a.d b.w b.d u [] f a.along (b.fixed u) h;
        stuck = stuck_after k L M a.w a.d b.w b.d b.m (drop i bytes) a.along b.stuck;
      }

  -- the answer of a reader of L, behind which K is to be read
  abbrev pub Serves : {A : Type 0} → Language → (A → Language) → ℕ → ℕ → Out A → Type 0
  Serves L K at n (got x i m) = Passes L at n (K x) i m
  Serves L K at n (bad k i) = Stops L at n k i

  pub serves_after : {B : Type 0} (L M : Language) (K : B → Language) (at n j p : ℕ) (o : Out B) → Passes L at n M j p → Serves M K j p o → Serves L K at n o
  serves_after L M K at n j p (got x i m) a h = go_on L M (K x) at n j p i m a h
  serves_after L M K at n j p (bad k i) a h = stop_after L M at n j p k i a h

  -- one reader after the other, where the first came through
  pub serves_step : {A B : Type 0} (L : Language) (M : A → Language) (K : B → Language) (at n : ℕ) (o : Out A) (f : A → ℕ → ℕ → Out B) → Serves L M at n o → ((x : A) (i m : ℕ) → o ≡ got x i m → m ≤ most → Serves (M x) K i m (f x i m)) → Serves L K at n (bind o f)
  serves_step L M K at n (got x i m) f a h = serves_after L (M x) K at n i m (f x i m) a (h x i m refl a.few)
  serves_step L M K at n (bad k i) f a h = a

  pub serves_bind : {A B : Type 0} (L : Language) (M : A → Language) (K : B → Language) (at n : ℕ) (o : Out A) (f : A → ℕ → ℕ → Out B) → Serves L M at n o → ((x : A) (i m : ℕ) → m ≤ most → Serves (M x) K i m (f x i m)) → Serves L K at n (bind o f)
  serves_bind L M K at n o f a h = serves_step L M K at n o f a (λ x i m _. h x i m)

  -- a reader looks at the byte at its place
  pub serves_byte : {A : Type 0} (L : Language) (K : A → Language) (at n : ℕ) (f : ℕ → Out A) → n ≤ most → Alive L → ((e : List ℕ) → L [] e → ⊥) → ((b : ℕ) → drop at bytes ≡ b ∷ drop (at + 1) bytes → Serves L K at n (f b)) → Serves L K at n (with_byte bytes at f)
  serves_byte L K at n f few alive some h =
      cond_both (ltb at (length bytes)) (f (get_or bytes at 0)) (bad ends_early at) (Serves L K at n)
      (λ t. h (get_or bytes at 0) (drop_more bytes at 0 (ltb-true at (length bytes) t)))
      (λ t. stops_here L at n ends_early few alive (drop_all at bytes (ltb-false at (length bytes) t), some))

  -- the byte is not allowed
  pub refuses : (L : Language) (at n b : ℕ) → n ≤ most → Alive L → ((e : List ℕ) → L [] e → ⊥) → drop at bytes ≡ b ∷ drop (at + 1) bytes → ((u e : List ℕ) → L (b ∷ u) e → ⊥) → Stops L at n not_allowed at
  refuses L at n b few alive some e h = stops_here L at n not_allowed few alive (b, drop (at + 1) bytes, e, h, some)

  -- the byte is taken, and no part begins at it
  pub takes : (L K : Language) (at n b : ℕ) → n ≤ most → drop at bytes ≡ b ∷ drop (at + 1) bytes → Left L (b ∷ []) (0 ∷ []) K → Passes L at n K (at + 1) n
  takes L K at n b few e h =
      record { w = b ∷ []; d = 0 ∷ []; spelt = e; place = refl; marked = refl; count = omega arith; few = few; flat = omega arith; along = h }

  begun_one : (l : ℕ) → 0 < l → begun (l ∷ []) ≡ 1
  begun_one zero h = absurd (omega arith)
  begun_one (suc l) h = refl

  -- a part begins at the byte, at the level l, or would if the limits allowed it
  pub serves_part : {A : Type 0} (L : Language) (K : A → Language) (x : A) (at n b l left : ℕ) → n ≤ most → drop at bytes ≡ b ∷ drop (at + 1) bytes → 0 < l → l + left ≡ suc most_levels → Alive (K x) → Left L (b ∷ []) (l ∷ []) (K x) → Serves L K at n (part most x left at n)
  serves_part L K x at n b l left few e pos sum alive along =
      let made : L (b ∷ alive.0) (l ∷ alive.1) = along.make alive.0 alive.1 alive.2 in
      let live : Alive L = (b ∷ alive.0, l ∷ alive.1, made) in
      let level : (u f : List ℕ) → L (b ∷ u) f → (g : List ℕ) × (f ≡ l ∷ g) = λ u f h. ((along.split u f h).0, (along.split u f h).1) in
      cond_both (eqb left 0) (bad too_deep at) (cond (ltb n most) (got x (at + 1) (n + 1)) (bad too_many at)) (Serves L K at n)
      (λ t.
      let deep : l ≡ suc most_levels = omega (arith, eqb-true left 0 t) in
      stops_here L at n too_deep few live (b, drop (at + 1) bytes, e, ((alive.0, l ∷ alive.1, made), λ u f h. ((level u f h).0, (level u f h).1 ∙ ap (λ z. z ∷ (level u f h).0) deep))))
      (λ t.
      let low : l ≤ most_levels = omega (arith, eqb-false left 0 t) in
      cond_both (ltb n most) (got x (at + 1) (n + 1)) (bad too_many at) (Serves L K at n)
      (λ s. record {
        w = b ∷ [];
        d = l ∷ [];
        spelt = e;
        place = refl;
        marked = refl;
        count = omega (arith, begun_one l pos);
        few = omega (arith, ltb-true n most s);
        flat = omega arith;
        along = along;
      })
      (λ s. stops_here L at n too_many few live (b, drop (at + 1) bytes, e, l, ((alive.0, l ∷ alive.1, made), level), pos, low, omega (arith, ltb-false n most s))))
