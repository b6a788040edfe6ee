-- Laws of choosing and testing.
use mathlib.Core.Path.{◌≡◌, refl, sym, ◌∙◌}
use mathlib.Core.Bool.{Bool, true, false, not}
use mathlib.Core.Logic.{◌⊎◌, inl, inr, ⊎_elim}
use Prim.Native.Nat.{ℕ, zero, suc, ◌≤◌, ◌<◌, zero-le, suc-le-suc}
use native.Mathlib.Nat.{eq-or-lt_of_le}
use native.Mathlib.Omega.{arith}
use lib.Dec.{T}
use borrow.Author.Tests.{not-true, not-false}
use Rattle.model.specs.Choice.{pick, ◌and◌}

-- a test does not come out both ways
pub clash : {A : Type 0} (b : Bool) → b ≡ true → b ≡ false → A
clash b p q = let z : ◌≡◌ {A = ℕ} 0 1 = cc in absurd (omega arith)

-- both ways of a test, each with what the test says
pub by_test : {A : Type 0} (P : A → Type 0) (t : Bool) {x y : A} → (t ≡ true → P x) → (t ≡ false → P y) → P (pick t x y)
by_test P true f g = f refl
by_test P false f g = g refl

-- what is made of a choice is made of both ways
pub pick_map : {A B : Type 0} (g : A → B) (t : Bool) (x y : A) → g (pick t x y) ≡ pick t (g x) (g y)
pick_map g true x y = refl
pick_map g false x y = refl

-- both parts of an `and`
pub and_parts : (p q : Bool) → (p and q) ≡ true → (p ≡ true) × (q ≡ true)
and_parts true q e = (refl, e)
and_parts false q e = clash false e refl

pub and_true : (p q : Bool) → p ≡ true → q ≡ true → (p and q) ≡ true
and_true true q e f = f
and_true false q e f = e

pub both_hold : (p q : Bool) → T (p and q) → T p × T q
both_hold true q t = (tt, t)
both_hold false q t = absurd t

-- nothing more is asked
pub and_yes : (p : Bool) → (p and true) ≡ p
and_yes true = refl
and_yes false = refl

pub and_no : (p : Bool) → (p and false) ≡ false
and_no true = refl
and_no false = refl

-- a call's answer r for the test p, asked by `if !r`
pub said_yes : {p r : Bool} → r ≡ p → not r ≡ false → p ≡ true
said_yes {p} {r} e n = sym e ∙ not-false r n

pub said_no : {p r : Bool} → r ≡ p → not r ≡ true → p ≡ false
said_no {p} {r} e n = sym e ∙ not-true r n

-- which of two numbers is less; that they are equal or not
pub order : (a b : ℕ) → (a < b) ⊎ (b ≤ a)
order zero zero = inr zero-le
order zero (suc b) = inl (suc-le-suc zero-le)
order (suc a) zero = inr zero-le
order (suc a) (suc b) = ⊎_elim (λ p. inl (suc-le-suc p)) (λ q. inr (suc-le-suc q)) (order a b)

pub sides : (j k : ℕ) → (j ≡ k → ⊥) → (j < k) ⊎ (k < j)
sides j k ne = ⊎_elim inl (λ q. ⊎_elim (λ e. absurd (ne (sym e))) inr (eq-or-lt_of_le q)) (order j k)

pub same_or_not : (j k : ℕ) → (j ≡ k) ⊎ (j ≡ k → ⊥)
same_or_not j k =
    ⊎_elim (λ p. inr (λ e. omega arith)) (λ q. ⊎_elim (λ e. inl (sym e)) (λ p. inr (λ e. omega arith)) (eq-or-lt_of_le q)) (order j k)
