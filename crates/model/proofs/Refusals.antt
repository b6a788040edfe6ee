-- Laws of refusing: the line that is given is the lowest that applies, and what is shown of each line and of the accepted outcome
-- holds of whatever is given. Assumes nothing.
use mathlib.Core.Path.{◌≡◌, refl, sym, ap, ◌∙◌, subst}
use mathlib.Core.Bool.{Bool, true, false}
use mathlib.Core.List.{List, [], ◌∷◌, ◌++◌}
use Prim.Native.Nat.{ℕ, ◌≤◌, ◌<◌}
use native.Mathlib.Omega.{arith}
use lib.Dec.{T, eqb, ltb, leb}
use borrow.Author.Tests.{eqb-true, eq-eqb, leb-true, ltb-true}
use Rattle.model.specs.Choice.{pick, ◌and◌, ◌or◌, Refusal, refuse, given, applies}
use Rattle.model.proofs.Choice.{by_test, clash, and_parts, and_no, pick_map}

-- no line applies
abbrev pub Passed : List Refusal → Type 0
Passed [] = Unit {0}
Passed (g ∷ l) = (g.1 ≡ false) × Passed l

-- what is shown of the number of each line
abbrev pub Each : (ℕ → Type 0) → List Refusal → Type 0
Each Q [] = Unit {0}
Each Q (g ∷ l) = Q g.0 × Each Q l

pub by_refusals : {A : Type 0} (P : A → Type 0) (l : List Refusal) (f : ℕ → A) (o : A) → Each (λ n. P (f n)) l → (Passed l → P o)
    → P (refuse l f o)
by_refusals P [] f o r h = h tt
by_refusals P (g ∷ l) f o r h = by_test P g.1 (λ e. r.0) (λ e. by_refusals P l f o r.1 (λ k. h (e, k)))

-- what holds whatever number is given
each_line : (Q : ℕ → Type 0) (l : List Refusal) → ((n : ℕ) → Q n) → Each Q l
each_line Q [] h = tt
each_line Q (g ∷ l) h = (h g.0, each_line Q l h)

pub unless_refused : {A : Type 0} (P : A → Type 0) (l : List Refusal) (f : ℕ → A) (o : A) → ((n : ℕ) → P (f n)) → (Passed l → P o)
    → P (refuse l f o)
unless_refused P l f o r h = by_refusals P l f o (each_line (λ n. P (f n)) l r) h

-- what holds of every number that a test lets pass holds of each line, where the test, computed, lets all its numbers pass
abbrev pub numbers : (ℕ → Bool) → List Refusal → Bool
numbers f [] = true
numbers f (g ∷ l) = f g.0 and numbers f l

pub each : (Q : ℕ → Type 0) (f : ℕ → Bool) (l : List Refusal) → ((n : ℕ) → f n ≡ true → Q n) → T (numbers f l) → Each Q l
each Q f [] h t = tt
each Q f (g ∷ l) h t = both (f g.0) refl t (each Q f l h)
  where
    both : (b : Bool) → f g.0 ≡ b → T (b and numbers f l) → (T (numbers f l) → Each Q l) → Q g.0 × Each Q l
    both true e u r = (h g.0 e, r u)
    both false e u r = absurd u

-- "The lowest number that applies is given": the lines rise, so the first that applies is the lowest
abbrev pub at_least : ℕ → List Refusal → Bool
at_least n [] = true
at_least n (g ∷ l) = leb n g.0 and at_least n l

abbrev pub rising : List Refusal → Bool
rising [] = true
rising (g ∷ l) = at_least g.0 l and rising l

-- what is made of an outcome is made of each way to it
pub refuse_map : {A B : Type 0} (g : A → B) (l : List Refusal) (f : ℕ → A) (o : A) → g (refuse l f o) ≡ refuse l (λ n. g (f n)) (g o)
refuse_map g [] f o = refl
refuse_map g (r ∷ l) f o = pick_map g r.1 (f r.0) (refuse l f o) ∙ ap (pick r.1 (g (f r.0))) (refuse_map g l f o)

-- lines that are asked after others
pub refuse_after : {A : Type 0} (l m : List Refusal) (f : ℕ → A) (o : A) → refuse l f (refuse m f o) ≡ refuse (l ++ m) f o
refuse_after [] m f o = refl
refuse_after (g ∷ l) m f o = ap (pick g.1 (f g.0)) (refuse_after l m f o)

pub passed_after : (l m : List Refusal) → Passed (l ++ m) → Passed m
passed_after [] m p = p
passed_after (g ∷ l) m p = passed_after l m p.1

-- where no line applies it is accepted
pub accepted : {A : Type 0} (l : List Refusal) (f : ℕ → A) (o : A) → Passed l → refuse l f o ≡ o
accepted [] f o p = refl
accepted (g ∷ l) f o p = rw p.0 (accepted l f o p.1)

-- what a step does whose number was found first: above 0 it is refused by it, at 0, which is no line's number, it is accepted
pub refused_by_given : {A : Type 0} (l : List Refusal) (f : ℕ → A) (o : A) → 0 < given l → refuse l f o ≡ f (given l)
refused_by_given [] f o h = absurd (omega arith)
refused_by_given ((n, true) ∷ l) f o h = refl
refused_by_given ((n, false) ∷ l) f o h = refused_by_given l f o h

pub none_given : (l : List Refusal) → numbers (ltb 0) l ≡ true → given l ≡ 0 → Passed l
none_given [] p e = tt
none_given ((n, true) ∷ l) p e = absurd (omega (arith, ltb-true 0 n (and_parts (ltb 0 n) (numbers (ltb 0) l) p).0))
none_given ((n, false) ∷ l) p e = (refl, none_given l (and_parts (ltb 0 n) (numbers (ltb 0) l) p).1 e)

pub accepted_by_given : {A : Type 0} (l : List Refusal) (f : ℕ → A) (o : A) → numbers (ltb 0) l ≡ true → given l ≡ 0
    → refuse l f o ≡ o
accepted_by_given l f o p e = accepted l f o (none_given l p e)

floor : (l : List Refusal) (n m : ℕ) → T (at_least n l) → applies m l ≡ true → n ≤ m
floor [] n m t e = clash false e refl
floor (g ∷ l) n m t e = by (leb n g.0) refl t (eqb g.0 m) refl g.1 e (λ u. floor l n m u)
  where
    by : (p : Bool) → leb n g.0 ≡ p → T (p and at_least n l) → (q : Bool) → eqb g.0 m ≡ q → (x : Bool)
        → ((q and x) or applies m l) ≡ true → (T (at_least n l) → applies m l ≡ true → n ≤ m) → n ≤ m
    by true p u true q true f r = omega (arith, leb-true n g.0 p, eqb-true g.0 m q)
    by true p u true q false f r = r u f
    by true p u false q x f r = r u f
    by false p u q d x f r = absurd u

-- .. k being the accepted outcome's
pub lowest_is_given : (l : List Refusal) (k : ℕ) → T (rising l) → (n : ℕ) → applies n l ≡ true → refuse l (λ i. i) k ≤ n
lowest_is_given [] k t n e = clash false e refl
lowest_is_given (g ∷ l) k t n e = by (at_least g.0 l) refl t g.1 (eqb g.0 n) refl e (λ u. lowest_is_given l k u n)
  where
    by : (p : Bool) → at_least g.0 l ≡ p → T (p and rising l) → (x q : Bool) → eqb g.0 n ≡ q → ((q and x) or applies n l) ≡ true
        → (T (rising l) → applies n l ≡ true → refuse l (λ i. i) k ≤ n) → pick x g.0 (refuse l (λ i. i) k) ≤ n
    by true p u true true q f r = omega (arith, eqb-true g.0 n q)
    by true p u true false q f r = floor l g.0 n (subst T (sym p) tt) f
    by true p u false true q f r = r u f
    by true p u false false q f r = r u f
    by false p u x q d f r = absurd u

-- "and none is given otherwise": a number below 20 is that of a line which applies, where what is accepted is answered from 20 on
pub given_applies : (l : List Refusal) (k : ℕ) → (Passed l → 20 ≤ k) → refuse l (λ i. i) k < 20 → applies (refuse l (λ i. i) k) l ≡ true
given_applies [] k h b = absurd (omega (arith, h tt))
given_applies ((n, true) ∷ l) k h b = rw (eq-eqb n n refl) refl
given_applies ((n, false) ∷ l) k h b =
    rw (and_no (eqb n (refuse l (λ i. i) k))) (given_applies l k (λ p. h (refl, p)) b)
