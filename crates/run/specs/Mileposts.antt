-- What a milepost run means. Assumes nothing.
use Rattle.std.specs.Prelude.{◌≡◌, ℕ, ◌+◌, ◌-◌, ◌<◌, ◌≤◌, min, Bool, false, cond, ◌&&◌, [], ◌∷◌, None, Option, ◌==◌, nat_lt}
use Rattle.fault.specs.declared.fault.Fault.{Fault}
use Rattle.fault.specs.declared.fault.Fault.TheVariants.{SizeOutOfRange}
use Rattle.logic.specs.Structure.{Structure}
use Rattle.scale.specs.declared.flag.Flag.{Flag}
use Rattle.scale.specs.Flags.{flag}
use Rattle.run.specs.declared.milepost.MilepostRun.{MilepostRun}
use Rattle.run.specs.Checks.{first_of, is_sized}
use Rattle.run.specs.Inside.{most_elements, inside1, inside2, cond_lt, min_last_lt}

-- f0(a) is the element behind a, or the last one
abbrev pub next : ℕ → ℕ → ℕ → ℕ
next n d a = cond (inside1 n d a && d == 0) (min (a + 1) (n - 1)) 0

-- r0(a,b) is a < b
abbrev pub before : ℕ → ℕ → ℕ → ℕ → Bool
before n d a b = inside2 n d a b && (d == 0 && nat_lt a b)

-- n mileposts in a row
abbrev pub mileposts : (n : ℕ) → 1 ≤ n → Structure Flag
mileposts n some = record {
  size = n;
  con = λ d. 0;
  fun1 = next n;
  fun2 = λ d a b. 0;
  pred0 = λ d. flag false;
  pred1 = λ d a. flag false;
  pred2 = λ d a b. flag (before n d a b);
  inhabited = some;
  con_in = λ d. some;
  fun1_in = λ d a. cond_lt (inside1 n d a && d == 0) (min (a + 1) (n - 1)) 0 n (min_last_lt (a + 1) n some) some;
  fun2_in = λ d a b. some;
}

-- what is wrong with the size of a milepost run
abbrev pub milepost_fault : ℕ → Option Fault
milepost_fault n = first_of ((is_sized most_elements n, SizeOutOfRange) ∷ [])

-- what a milepost run means
abbrev pub milepost_view : MilepostRun → Structure Flag
milepost_view r = mileposts r.size r.some

-- what comes of making a milepost run of a size
pub record MilepostMade (n : ℕ) (M : Structure Flag) : Type 0 where
  pub faultless : milepost_fault n ≡ None
  pub size : M.size ≡ n
  pub con : (d : ℕ) → M.con d ≡ 0
  pub fun1_next : (a : ℕ) → a + 1 < n → M.fun1 0 a ≡ a + 1
  pub fun1_last : M.fun1 0 (n - 1) ≡ n - 1
  pub fun1_else : (d a : ℕ) → 1 ≤ d → M.fun1 d a ≡ 0
  pub fun2 : (d a b : ℕ) → M.fun2 d a b ≡ 0
  pub pred0 : (d : ℕ) → M.pred0 d ≡ flag false
  pub pred1 : (d a : ℕ) → M.pred1 d a ≡ flag false
  pub pred2_before : (a b : ℕ) → a < n → b < n → M.pred2 0 a b ≡ flag (nat_lt a b)
  pub pred2_else : (d a b : ℕ) → 1 ≤ d → M.pred2 d a b ≡ flag false
