-- Who owns a cell: a function, so that no cell lies in two blocks. A meter owns its record's cells; `other` owns the move's other
-- block; `none` is nobody. The map's bit of a cell says whether somebody owns it. Assumes nothing.
use mathlib.Core.Path.{◌≡◌, refl, sym, ◌∙◌}
use mathlib.Core.Logic.{◌≢◌, inl, inr, ⊎_elim}
use mathlib.Core.List.{List}
use Prim.Native.Nat.{ℕ, ◌+◌, ◌≤◌, ◌<◌}
use native.Mathlib.Omega.{arith}
use lib.Dec.{eqb, ltb, leb}
use borrow.Author.Tests.{eqb-true, eqb-false, ne_eqb, leb-true, leb-false, ltb-true, ltb-false}
use Rattle.model.specs.Choice.{pick}
use Rattle.model.specs.Arena.{none, used, put_run, IsMap}
use Rattle.model.proofs.Choice.{by_test, order}
use Rattle.model.proofs.CellMap.{FreeRun, used_run, used_run_other}

abbrev pub other : ℕ
other = 256

-- i owns the n cells from c on
abbrev pub Owns : (ℕ → ℕ) → ℕ → ℕ → ℕ → Type 0
Owns own i c n = (x : ℕ) → c ≤ x → x < c + n → own x ≡ i

-- 1 for an owner, 0 for nobody
abbrev pub bit_of : ℕ → ℕ
bit_of i = pick (eqb i none) 0 1

pub owner_bit : (i : ℕ) → i ≢ none → 1 ≡ bit_of i
owner_bit i n = rw (ne_eqb i none n) refl

abbrev pub Mapped : (ℕ → ℕ) → List ℕ → Type 0
Mapped own map = (x : ℕ) → x < 1024 → used map x ≡ bit_of (own x)

-- the n cells from c on get the owner i
unfoldable pub repaint : (ℕ → ℕ) → ℕ → ℕ → ℕ → ℕ → ℕ
repaint own c n i x = pick (leb c x) (pick (ltb x (c + n)) i (own x)) (own x)

pub repaint_cases : (P : ℕ → Type 0) (own : ℕ → ℕ) (c n i x : ℕ) → (c ≤ x → x < c + n → P i) → ((c ≤ x → x < c + n → ⊥) → P (own x))
    → P (repaint own c n i x)
unfolding repaint
repaint_cases P own c n i x f g =
    by_test P (leb c x)
    (λ a. by_test P (ltb x (c + n)) (λ b. f (leb-true c x a) (ltb-true x (c + n) b)) (λ b. g (λ _ q. omega (arith, ltb-false x (c + n) b))))
    (λ a. g (λ p _. omega (arith, leb-false c x a)))

pub repaint_in : (own : ℕ → ℕ) (c n i : ℕ) → Owns (repaint own c n i) i c n
repaint_in own c n i x a b = repaint_cases (λ (j : ℕ). j ≡ i) own c n i x (λ _ _. refl) (λ h. absurd (h a b))

-- a block that the paint does not touch
pub owns_keep : (own : ℕ → ℕ) (c n j i d m : ℕ) → ((x : ℕ) → c ≤ x → x < c + n → own x ≢ i) → Owns own i d m
    → Owns (repaint own c n j) i d m
owns_keep own c n j i d m h o x a b = repaint_cases (λ (k : ℕ). k ≡ i) own c n j x (λ p q. absurd (h x p q (o x a b))) (λ _. o x a b)

-- the map and the owners when a run is taken, b = 1, or given back, b = 0
pub mapped_run : (own : ℕ → ℕ) (map : List ℕ) (c n i b : ℕ) → IsMap map → b < 2 → bit_of i ≡ b → Mapped own map
    → Mapped (repaint own c n i) (put_run map c n b)
mapped_run own map c n i b m small e h x lt =
    repaint_cases (λ (j : ℕ). used (put_run map c n b) x ≡ bit_of j) own c n i x
    (λ p q. used_run map c n b x m small p q lt ∙ sym e)
    (λ o. used_run_other map c n b x small
    (⊎_elim inl (λ (p : c ≤ x). inr (⊎_elim (λ q. absurd (o p q)) (λ q. q) (order x (c + n)))) (order x c)) ∙ h x lt)

-- nobody owns a free cell
pub free_unowned : (own : ℕ → ℕ) (map : List ℕ) → Mapped own map → (x : ℕ) → x < 1024 → used map x ≡ 0 → own x ≡ none
free_unowned own map h x lt e =
    by_test (λ (b : ℕ). used map x ≡ b → own x ≡ none) (eqb (own x) none) (λ t _. eqb-true (own x) none t) (λ _ z. absurd (omega arith))
    (h x lt)

pub run_unowned : (own : ℕ → ℕ) (map : List ℕ) (n c : ℕ) → Mapped own map → FreeRun map n c → Owns own none c n
run_unowned own map n c h run x p q = free_unowned own map h x (omega (arith, run.within)) (run.free x p q)

-- two owners change places
unfoldable pub exchange : ℕ → ℕ → ℕ → ℕ
exchange a b i = pick (eqb i a) b (pick (eqb i b) a i)

pub exchange_cases : (P : ℕ → ℕ → Type 0) (a b i : ℕ) → (i ≡ a → P i b) → (i ≡ b → P i a) → (i ≢ a → i ≢ b → P i i) → P i (exchange a b i)
unfolding exchange
exchange_cases P a b i f g h =
    by_test (P i) (eqb i a) (λ e. f (eqb-true i a e))
    (λ e. by_test (P i) (eqb i b) (λ k. g (eqb-true i b k)) (λ k. h (eqb-false i a e) (eqb-false i b k)))

pub mapped_exchange : (own : ℕ → ℕ) (map : List ℕ) (a b : ℕ) → a ≢ none → b ≢ none → Mapped own map → Mapped (λ x. exchange a b (own x)) map
mapped_exchange own map a b p q h x lt =
    h x lt ∙ exchange_cases (λ i j. bit_of i ≡ bit_of j) a b (own x)
    (λ e. rw (e, ne_eqb a none p, ne_eqb b none q)) (λ e. rw (e, ne_eqb a none p, ne_eqb b none q)) (λ _ _. refl)
