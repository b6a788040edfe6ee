-- A test and what it says, each way, for every way in which the definitions build a test: the lemma of a rule is then its own text
-- again. After it, what a loop in code needs of `every`, `all` and `any`. Assumes nothing.
use mathlib.Core.Path.{◌≡◌, refl, sym, ap, ◌∙◌}
use mathlib.Core.Logic.{◌⊎◌, inl, inr, ⊎_elim}
use mathlib.Core.Bool.{Bool, true, false, not}
use mathlib.Core.List.{List, [], ◌∷◌}
use Prim.Native.Nat.{ℕ, zero, suc, ◌+◌, ◌≤◌, ◌<◌}
use native.Mathlib.Omega.{arith}
use native.Mathlib.Numerals.{add-one}
use lib.Dec.{T, eqb, ltb, leb}
use lib.ListN.{length, get_or, replicate}
use borrow.Author.Tests.{eqb-true, ltb-true, leb-true, eq-eqb, lt-ltb, le-leb, not-true}
use Rattle.model.specs.Choice.{◌and◌, ◌or◌, ◌⇒◌, one, every, all, any, All}
use Rattle.model.proofs.Choice.{clash, and_true, same_or_not}

pub record Says (b : Bool) (P : Type 0) : Type 0 where
  pub holds : b ≡ true → P
  pub test : P → b ≡ true

pub says_eq : (x y : ℕ) → Says (eqb x y) (x ≡ y)
says_eq x y = record { holds = eqb-true x y; test = eq-eqb x y }

pub says_lt : (x y : ℕ) → Says (ltb x y) (x < y)
says_lt x y = record { holds = ltb-true x y; test = lt-ltb x y }

pub says_le : (x y : ℕ) → Says (leb x y) (x ≤ y)
says_le x y = record { holds = leb-true x y; test = le-leb x y }

pub says_is : (b : Bool) → Says b (b ≡ true)
says_is b = record { holds = λ e. e; test = λ e. e }

pub says_isnt : (b : Bool) → Says (not b) (b ≡ false)
says_isnt b = record { holds = not-true b; test = λ e. rw e refl }

pub says_yes : Says true (Unit {0})
says_yes = record { holds = λ _. tt; test = λ _. refl }

pub says_no : Says false ⊥
says_no = record { holds = λ e. clash false e refl; test = λ z. absurd z }

pub says_holds : (b : Bool) → Says b (T b)
says_holds true = says_yes
says_holds false = says_no

-- the same in other words
pub says_as : {b : Bool} {P Q : Type 0} → (P → Q) → (Q → P) → Says b P → Says b Q
says_as to from p = record { holds = λ e. to (p.holds e); test = λ q. p.test (from q) }

pub says_not : {a : Bool} {P : Type 0} → Says a P → Says (not a) (¬ P)
says_not {a} {P} p = by a p
  where
    by : (t : Bool) → Says t P → Says (not t) (¬ P)
    by true q = record { holds = λ e _. clash false e refl; test = λ n. absurd (n (q.holds refl)) }
    by false q = record { holds = λ _ x. clash false (q.test x) refl; test = λ _. refl }

pub says_and : {a b : Bool} {P Q : Type 0} → Says a P → Says b Q → Says (a and b) (P × Q)
says_and {a} {b} {P} {Q} p q = by a p
  where
    by : (t : Bool) → Says t P → Says (t and b) (P × Q)
    by true p = record { holds = λ e. (p.holds refl, q.holds e); test = λ k. q.test k.1 }
    by false p = record { holds = λ e. clash false e refl; test = λ k. p.test k.0 }

pub says_or : {a b : Bool} {P Q : Type 0} → Says a P → Says b Q → Says (a or b) (P ⊎ Q)
says_or {a} {b} {P} {Q} p q = by a p
  where
    by : (t : Bool) → Says t P → Says (t or b) (P ⊎ Q)
    by true p = record { holds = λ _. inl (p.holds refl); test = λ _. refl }
    by false p = record { holds = λ e. inr (q.holds e); test = ⊎_elim (λ x. clash false (p.test x) refl) (λ y. q.test y) }

pub says_when : {a b : Bool} {P Q : Type 0} → Says a P → Says b Q → Says (a ⇒ b) (P → Q)
says_when {a} {b} {P} {Q} p q = by a p
  where
    by : (t : Bool) → Says t P → Says (t ⇒ b) (P → Q)
    by true p = record { holds = λ e _. q.holds e; test = λ k. q.test (k (p.holds refl)) }
    by false p = record { holds = λ _ x. clash false (p.test x) refl; test = λ _. refl }

pub says_every : (n : ℕ) (f : ℕ → Bool) (P : ℕ → Type 0) → ((x : ℕ) → Says (f x) (P x)) → Says (every n f) ((x : ℕ) → x < n → P x)
unfolding every
says_every zero f P h = record { holds = λ _ x l. absurd (omega arith); test = λ _. refl }
says_every (suc n) f P h = says_as to (λ k. (k n (omega arith), λ x l. k x (omega arith))) (says_and (h n) (says_every n f P h))
  where
    to : P n × ((x : ℕ) → x < n → P x) → (x : ℕ) → x < suc n → P x
    to p x l = ⊎_elim (λ (e : x ≡ n). rw e p.0) (λ (e : x ≡ n → ⊥). p.1 x (omega arith)) (same_or_not x n)

-- a test that can't hold fails
pub refute : (b : Bool) → ¬ (b ≡ true) → b ≡ false
refute true h = absurd (h refl)
refute false h = refl

pub record Somewhere {A : Type 0} (P : A → Type 0) (d : A) (l : List A) : Type 0 where
  pub at : ℕ
  pub low : at < length l
  pub holds : P (get_or l at d)

module _ {A : Type 0} where
  pub says_all : (f : A → Bool) (P : A → Type 0) → ((x : A) → Says (f x) (P x)) → (l : List A) → Says (all f l) (All P l)
  says_all f P h [] = says_yes
  says_all f P h (x ∷ l) = says_and (h x) (says_all f P h l)

  -- no element
  pub says_none : (f : A → Bool) (P : A → Type 0) → ((x : A) → Says (f x) (P x)) → (l : List A) → Says (not (any f l)) (All (λ x. ¬ P x) l)
  says_none f P h [] = says_yes
  says_none f P h (x ∷ l) = by (f x) (h x) (says_none f P h l)
    where
      by : (t : Bool) → Says t (P x) → Says (not (any f l)) (All (λ x. ¬ P x) l) → Says (not (t or any f l)) ((¬ P x) × All (λ x. ¬ P x) l)
      by true p q = record { holds = λ e. clash false e refl; test = λ k. absurd (k.0 (p.holds refl)) }
      by false p q = says_as (λ k. ((λ x. clash false (p.test x) refl), k)) (λ k. k.1) q

  pub says_any : (f : A → Bool) (P : A → Type 0) → ((x : A) → Says (f x) (P x)) → (d : A) (l : List A) → Says (any f l) (Somewhere P d l)
  says_any f P h d [] = record { holds = λ e. clash false e refl; test = λ k. absurd (omega (arith, k.low)) }
  says_any f P h d (x ∷ l) = says_as to (λ k. from k.at k.low k.holds) (says_or (h x) (says_any f P h d l))
    where
      to : P x ⊎ Somewhere P d l → Somewhere P d (x ∷ l)
      to (inl p) = record { at = 0; low = omega arith; holds = p }
      to (inr k) = record { at = suc k.at; low = omega (arith, k.low); holds = k.holds }

      from : (i : ℕ) → i < suc (length l) → P (get_or (x ∷ l) i d) → P x ⊎ Somewhere P d l
      from zero b p = inl p
      from (suc i) b p = inr (record { at = i; low = omega arith; holds = p })

  pub all_get : (P : A → Type 0) (l : List A) (i : ℕ) {d : A} → All P l → P d → P (get_or l i d)
  all_get P [] i h p = p
  all_get P (x ∷ l) zero h p = h.0
  all_get P (x ∷ l) (suc i) h p = all_get P l i h.1 p

  -- what the tests of a whole list say of the element at a place, or of the default
  pub all_test : (f : A → Bool) (l : List A) (i : ℕ) {d : A} → all f l ≡ true → f d ≡ true → f (get_or l i d) ≡ true
  all_test f l i e h = all_get (λ x. f x ≡ true) l i ((says_all f (λ x. f x ≡ true) (λ x. says_is (f x)) l).holds e) h

  -- within a list what lies past its end does not matter
  pub get_d_in : (l : List A) (i : ℕ) (d e : A) → i < length l → get_or l i d ≡ get_or l i e
  get_d_in [] i d e h = absurd (omega arith)
  get_d_in (x ∷ l) zero d e h = refl
  get_d_in (x ∷ l) (suc i) d e h = get_d_in l i d e (omega arith)

  -- an index for each element, and back
  pub all_at : (P : A → Type 0) (d : A) (l : List A) → All P l → (i : ℕ) → i < length l → P (get_or l i d)
  all_at P d [] h i b = absurd (omega arith)
  all_at P d (x ∷ l) h zero b = h.0
  all_at P d (x ∷ l) h (suc i) b = all_at P d l h.1 i (omega arith)

  pub at_all : (P : A → Type 0) (d : A) (l : List A) → ((i : ℕ) → i < length l → P (get_or l i d)) → All P l
  at_all P d [] h = tt
  at_all P d (x ∷ l) h = (h 0 (omega arith), at_all P d l (λ i b. h (suc i) (omega arith)))

  pub any_test : (f : A → Bool) (l : List A) (i : ℕ) {d : A} → any f l ≡ false → f d ≡ false → f (get_or l i d) ≡ false
  any_test f l i {d} e h =
      all_get (λ x. f x ≡ false) l i
      (at_all (λ x. f x ≡ false) d l (λ j p. refute (f (get_or l j d)) (λ q. clash (any f l) (some j p q) e))) h
    where
      some : (j : ℕ) → j < length l → f (get_or l j d) ≡ true → any f l ≡ true
      some j p q = (says_any f (λ x. f x ≡ true) (λ x. says_is (f x)) d l).test (record { at = j; low = p; holds = q })

  -- a list of one value: what it has at each place, and past its end where that is the default
  pub get_d_fresh : (n i : ℕ) (x : A) → get_or (replicate n x) i x ≡ x
  get_d_fresh zero i x = refl
  get_d_fresh (suc n) zero x = refl
  get_d_fresh (suc n) (suc i) x = get_d_fresh n i x

  pub all_replicate : (P : A → Type 0) (n : ℕ) (x : A) → P x → All P (replicate n x)
  all_replicate P zero x p = tt
  all_replicate P (suc n) x p = (p, all_replicate P n x p)

-- two tests that say the same are equal
pub says_same : {a b : Bool} {P : Type 0} → Says a P → Says b P → a ≡ b
says_same {a} {b} {P} p q = by a b p q
  where
    by : (a b : Bool) → Says a P → Says b P → a ≡ b
    by true b p q = sym (q.test (p.holds refl))
    by false true p q = p.test (q.holds refl)
    by false false p q = refl

-- a test as a number, 0 or 1
pub one_le : (b : Bool) → one b ≤ 1
one_le true = omega arith
one_le false = omega arith

module _ {b : Bool} {P : Type 0} (p : Says b P) where
  pub one_holds : one b ≡ 1 → P
  one_holds = by b p
    where
      by : (t : Bool) → Says t P → one t ≡ 1 → P
      by true q e = q.holds refl
      by false q e = absurd (omega arith)

  pub one_yes : P → one b ≡ 1
  one_yes x = ap one (p.test x)

  pub one_no : ¬ P → one b ≡ 0
  one_no n = ap one (refute b (λ e. n (p.holds e)))

-- A loop that goes up: before its first turn, after one turn, when it stops early, and when it is done
module _ (f : ℕ → Bool) where
  pub every_none : every 0 f ≡ true
  unfolding every
  every_none = refl

  pub every_more : (n : ℕ) → every n f ≡ true → f n ≡ true → every (n + 1) f ≡ true
  unfolding every
  every_more n e g = ap (λ k. every k f) (add-one n) ∙ and_true (f n) (every n f) g e

  pub every_at : (n : ℕ) → every n f ≡ true → (i : ℕ) → i < n → f i ≡ true
  every_at n e = (says_every n f (λ i. f i ≡ true) (λ i. says_is (f i))).holds e

  pub every_not : (n i : ℕ) → i < n → f i ≡ false → every n f ≡ false
  every_not n i h g = refute (every n f) (λ e. clash (f i) (every_at n e i h) g)

  pub every_done : (n i : ℕ) → every i f ≡ true → i ≤ n → n ≤ i → every n f ≡ true
  every_done n i e h k = let s : n ≡ i = omega arith in ap (λ j. every j f) s ∙ e

-- the test of the element at an index: d is what lies past the end
abbrev pub at_index : {A : Type 0} → (A → Bool) → List A → A → ℕ → Bool
at_index f l d i = f (get_or l i d)

module _ {A : Type 0} (f : A → Bool) (d : A) where
  abbrev Holds : A → Type 0
  Holds x = f x ≡ true

  -- a list is tested as its indices are
  pub all_every : (l : List A) → all f l ≡ every (length l) (at_index f l d)
  all_every l =
      says_same (says_as (all_at Holds d l) (at_all Holds d l) (says_all f Holds (λ x. says_is (f x)) l))
      (says_every (length l) (at_index f l d) (λ i. Holds (get_or l i d)) (λ i. says_is (f (get_or l i d))))

  -- a walk over a list stops early, or has passed all of it
  pub all_not : (l : List A) (i : ℕ) → i < length l → f (get_or l i d) ≡ false → all f l ≡ false
  all_not l i b e = all_every l ∙ every_not (at_index f l d) (length l) i b e

  pub all_done : (l : List A) (i : ℕ) → every i (at_index f l d) ≡ true → i ≤ length l → length l ≤ i → all f l ≡ true
  all_done l i e h k = all_every l ∙ every_done (at_index f l d) (length l) i e h k
