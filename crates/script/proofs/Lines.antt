-- Laws of fields, lines and sections: what each test of the code makes of them.
use mathlib.Core.Path.{◌≡◌, refl}
use mathlib.Core.List.{List, [], ◌∷◌}
use Prim.Native.Nat.{ℕ, suc, ◌+◌, ◌-◌, ◌≤◌, ◌<◌}
use native.Mathlib.Omega.{arith}
use borrow.Author.Tests.{eq-eqb, ne_eqb}
use lib.ListN.{length, get_or}
use lib.Seq.{sets, set_out}
use Rattle.std.specs.Prelude.{Option, Some, None, Result, Ok, Err, ok_or}
use Rattle.script.specs.declared.BadFile.{BadFile}
use Rattle.script.specs.Numbers.{found, number_at}
use Rattle.script.specs.Lines.{◌>>=◌, bad, field_at, line_at, lines_at, section_at, numbers_at}

-- what was read and is gone on with was read
pub then_ok : {A B : Type 0} (r : Result A BadFile) (f : A → Result B BadFile) (y : B) → (r >>= f) ≡ Ok y
    → (x : A) × (r ≡ Ok x) × (f x ≡ Ok y)
then_ok (Ok x) f y e = (x, refl, e)
then_ok (Err d) f y e = let z : ◌≡◌ {A = ℕ} 0 1 = cc in absurd (omega arith)

-- a bad line is the first part's, or that of what is read behind it
pub then_err : {A B P : Type 0} (r : Result A BadFile) (f : A → Result B BadFile) (d : BadFile) → (r >>= f) ≡ Err d
    → (r ≡ Err d → P) → ((x : A) → r ≡ Ok x → f x ≡ Err d → P) → P
then_err (Ok x) f d e p q = q x refl e
then_err (Err k) f d e p q = p cc

pub ok_of : {A : Type 0} (o : Option A) (d : BadFile) (x : A) → ok_or o d ≡ Ok x → o ≡ Some x
ok_of None d x e = let z : ◌≡◌ {A = ℕ} 0 1 = cc in absurd (omega arith)
ok_of (Some y) d x e = cc

pub err_of : {A : Type 0} (o : Option A) (d k : BadFile) → ok_or o d ≡ Err k → d ≡ k
err_of None d k e = cc
err_of (Some y) d k e = let z : ◌≡◌ {A = ℕ} 0 1 = cc in absurd (omega arith)

module _ (s : List ℕ) (mark at : ℕ) where
  pub field_missing : number_at s at ≡ None → field_at s mark at ≡ None
  unfolding field_at
  field_missing e = simp e

  pub field_marked : (v next : ℕ) → number_at s at ≡ Some (found v next) → get_or s next 0 ≡ mark
      → field_at s mark at ≡ Some (found v (next + 1))
  unfolding field_at
  field_marked v next e m = simp (e, eq-eqb (get_or s next 0) mark m)

  pub field_unmarked : (v next : ℕ) → number_at s at ≡ Some (found v next) → (get_or s next 0 ≡ mark → ⊥) → field_at s mark at ≡ None
  unfolding field_at
  field_unmarked v next e m = simp (e, ne_eqb (get_or s next 0) mark m)

-- one of those that are left at turn i of a count
pub one_left : (i count : ℕ) → i < count → count - i ≡ suc (count - (i + 1))
one_left i count h = omega arith

module _ (s : List ℕ) (at : ℕ) where
  pub line_ends : (k : ℕ) → k ≡ 0 → line_at s k at ≡ field_at s 10 at
  unfolding line_at
  line_ends k h = rw h refl

  pub line_goes_on : (k v next : ℕ) → field_at s 32 at ≡ Some (found v next) → line_at s (suc k) at ≡ line_at s k next
  unfolding line_at
  line_goes_on k v next e = rw (e, line_at)

  pub line_breaks : (k : ℕ) → field_at s 32 at ≡ None → line_at s (suc k) at ≡ None
  unfolding line_at
  line_breaks k e = rw (e, line_at)

module _ (s : List ℕ) (spaces first at : ℕ) where
  pub lines_end : (k : ℕ) → k ≡ 0 → lines_at s k spaces first at ≡ Ok at
  unfolding lines_at
  lines_end k h = rw h refl

  pub lines_go_on : (k v next : ℕ) → line_at s spaces at ≡ Some (found v next)
      → lines_at s (suc k) spaces first at ≡ lines_at s k spaces (first + 1) next
  unfolding lines_at
  lines_go_on k v next e = rw (e, lines_at)

  pub lines_break : (k : ℕ) → line_at s spaces at ≡ None → lines_at s (suc k) spaces first at ≡ Err (bad first)
  unfolding lines_at
  lines_break k e = rw (e, lines_at)

-- at turn i of a count
pub lines_turn : (s : List ℕ) (spaces first at i count v next : ℕ) → i < count → line_at s spaces at ≡ Some (found v next)
    → lines_at s (count - i) spaces (first + i) at ≡ lines_at s (count - (i + 1)) spaces (first + (i + 1)) next
lines_turn s spaces first at i count v next h e =
    let k : first + i + 1 ≡ first + (i + 1) = omega arith in
    rw (one_left i count h, lines_go_on s spaces (first + i) at (count - (i + 1)) v next e, k)

-- A section has no count, or its lines decide.
module _ (s : List ℕ) (spaces first at : ℕ) where
  pub section_uncounted : line_at s 0 at ≡ None → section_at s spaces first at ≡ Err (bad first)
  unfolding section_at
  section_uncounted e = simp e

  pub section_wrong_line : (count start : ℕ) (d : BadFile) → line_at s 0 at ≡ Some (found count start)
      → lines_at s count spaces (first + 1) start ≡ Err d → section_at s spaces first at ≡ Err d
  unfolding section_at
  section_wrong_line count start d e f = simp (e, f)

  pub section_whole : (count start end : ℕ) → line_at s 0 at ≡ Some (found count start) → lines_at s count spaces (first + 1) start ≡ Ok end
      → section_at s spaces first at ≡ Ok (record { count = count; start = start; end = end })
  unfolding section_at
  section_whole count start end e f = simp (e, f)

-- Numbers laid out as words: no room left, none left, one more.
pub sets_full : (l : List ℕ) (i : ℕ) (vs : List ℕ) → length l ≤ i → sets l i vs ≡ l
sets_full l i [] h = refl
sets_full l i (v ∷ vs) h = rw (set_out l i v h) (sets_full l (suc i) vs (omega arith))

module _ (s : List ℕ) (at : ℕ) where
  pub numbers_none : (k : ℕ) → k ≡ 0 → numbers_at s k at ≡ []
  unfolding numbers_at
  numbers_none k h = rw h refl

  pub numbers_stop : (k : ℕ) → number_at s at ≡ None → numbers_at s (suc k) at ≡ []
  unfolding numbers_at
  numbers_stop k e = rw (e, numbers_at)

  pub numbers_go_on : (k v next : ℕ) → number_at s at ≡ Some (found v next) → numbers_at s (suc k) at ≡ v ∷ numbers_at s k (next + 1)
  unfolding numbers_at
  numbers_go_on k v next e = rw (e, numbers_at)
