-- The laws of the map that callers cite: what is used after a cell or a run was put, that a map is its bits, and that the run
-- found is the lowest. Assumes nothing.
use mathlib.Core.Path.{◌≡◌, refl, sym, ap, ap₂, ◌∙◌, subst, subst⁻¹}
use mathlib.Core.Bool.{Bool, true, false}
use mathlib.Core.List.{List}
use mathlib.Core.Logic.{◌⊎◌, inl, inr, ⊎_elim}
use Prim.Native.Nat.{ℕ, zero, suc, ◌+◌, ◌*◌, ◌/◌, ◌%◌, ◌^◌, ◌≤◌, ◌<◌}
use native.Mathlib.Omega.{arith}
use lib.Dec.{lit<, eqb, leb}
use borrow.Author.Tests.{eq-eqb, eqb-true, le-leb, leb-true}
use lib.ListN.{length, get_or, set, replicate, length-set}
use lib.Seq.{get_or-set_same, get_or-set_other, set_out, ext_get_or}
use Rattle.model.specs.Choice.{pick, ◌and◌}
use Rattle.model.proofs.Choice.{order, same_or_not, clash, by_test, and_parts, and_true}
use Rattle.model.specs.Arena.{none, IsMap, bit, with_bit, used, put, put_run, free_cells, run_at, lowest_from, lowest_run}
use Rattle.model.proofs.Says.{get_d_fresh}
use Rattle.model.proofs.Bits.{bit_lt, no_bit, with_same, with_other, with_lt, bits_ext}

pub used_lt : (m : List ℕ) (c : ℕ) → used m c < 2
unfolding used
used_lt m c = bit_lt _ _

-- bit k of word i is cell 64 i + k
pub used_at : (m : List ℕ) (i k : ℕ) → k < 64 → used m (64 * i + k) ≡ bit (get_or m i 0) k
unfolding used
used_at m i k h =
    let p : (64 * i + k) / 64 ≡ i = omega arith in
    let q : (64 * i + k) % 64 ≡ k = omega arith in
    ap₂ (λ (x y : ℕ). bit (get_or m x 0) y) p q

-- a store keeps a map a map
pub set_map : (m : List ℕ) (i w : ℕ) → IsMap m → w < 2 ^ 64 → IsMap (set m i w)
set_map m i w h hw = record { sixteen = length-set m i w ∙ h.sixteen; words = λ k. ⊎_elim (same k) (other k) (same_or_not k i) }
  where
    same : (k : ℕ) → k ≡ i → get_or (set m i w) k 0 < 2 ^ 64
    same k e =
        subst⁻¹ (λ (x : ℕ). get_or (set m i w) x 0 < 2 ^ 64) e
        (⊎_elim (λ p. subst⁻¹ (λ (x : ℕ). x < 2 ^ 64) (get_or-set_same m i w 0 p) hw)
        (λ p. subst⁻¹ (λ (l : List ℕ). get_or l i 0 < 2 ^ 64) (set_out m i w p) (h.words i)) (order i (length m)))

    other : (k : ℕ) → (k ≡ i → ⊥) → get_or (set m i w) k 0 < 2 ^ 64
    other k ne = subst⁻¹ (λ (x : ℕ). x < 2 ^ 64) (get_or-set_other m i k w 0 ne) (h.words k)

pub put_map : (m : List ℕ) (c b : ℕ) → IsMap m → b < 2 → IsMap (put m c b)
unfolding put
put_map m c b h hb =
    set_map m (c / 64) (with_bit (get_or m (c / 64) 0) (c % 64) b) h
    (with_lt 64 (get_or m (c / 64) 0) (c % 64) b (h.words (c / 64)) (omega arith) hb)

-- the cell that was put, and every other
pub used_put : (m : List ℕ) (c b : ℕ) → IsMap m → c < 1024 → b < 2 → used (put m c b) c ≡ b
unfolding used put
used_put m c b h hc hb =
    ap (λ (x : ℕ). bit x (c % 64)) (get_or-set_same m (c / 64) (with_bit (get_or m (c / 64) 0) (c % 64) b) 0 (omega (arith, h.sixteen)))
    ∙ with_same (get_or m (c / 64) 0) (c % 64) b hb

pub used_put_other : (m : List ℕ) (c b j : ℕ) → b < 2 → (j ≡ c → ⊥) → used (put m c b) j ≡ used m j
unfolding used put
used_put_other m c b j hb ne = ⊎_elim same other (same_or_not (j / 64) (c / 64))
  where
    same : j / 64 ≡ c / 64 → used (put m c b) j ≡ used m j
    same e =
        let ne' : j % 64 ≡ c % 64 → ⊥ = λ q. ne (omega arith) in
        ap (λ (i : ℕ). bit (get_or (put m c b) i 0) (j % 64)) e
        ∙ ⊎_elim
        (λ p. ap (λ (x : ℕ). bit x (j % 64)) (get_or-set_same m (c / 64) (with_bit (get_or m (c / 64) 0) (c % 64) b) 0 p)
        ∙ with_other (get_or m (c / 64) 0) (c % 64) b (j % 64) hb ne')
        (λ p. ap (λ (l : List ℕ). bit (get_or l (c / 64) 0) (j % 64)) (set_out m (c / 64) (with_bit (get_or m (c / 64) 0) (c % 64) b) p))
        (order (c / 64) (length m))
        ∙ ap (λ (i : ℕ). bit (get_or m i 0) (j % 64)) (sym e)

    other : (j / 64 ≡ c / 64 → ⊥) → used (put m c b) j ≡ used m j
    other ne = ap (λ (x : ℕ). bit x (j % 64)) (get_or-set_other m (c / 64) (j / 64) (with_bit (get_or m (c / 64) 0) (c % 64) b) 0 ne)

-- a run: still a map; the cells of the run that lie in the map; the cells outside it
pub run_map : (m : List ℕ) (c n b : ℕ) → IsMap m → b < 2 → IsMap (put_run m c n b)
unfolding put_run
run_map m c zero b h hb = h
run_map m c (suc n) b h hb = put_map (put_run m c n b) (c + n) b (run_map m c n b h hb) hb

pub used_run : (m : List ℕ) (c n b x : ℕ) → IsMap m → b < 2 → c ≤ x → x < c + n → x < 1024 → used (put_run m c n b) x ≡ b
unfolding put_run
used_run m c zero b x h hb p q r = absurd (omega arith)
used_run m c (suc n) b x h hb p q r = ⊎_elim last (before (λ u. used_run m c n b x h hb p u r)) (same_or_not x (c + n))
  where
    last : x ≡ c + n → used (put (put_run m c n b) (c + n) b) x ≡ b
    last e = ap (used (put (put_run m c n b) (c + n) b)) e ∙ used_put (put_run m c n b) (c + n) b (run_map m c n b h hb) (omega arith) hb

    before : (x < c + n → used (put_run m c n b) x ≡ b) → (x ≡ c + n → ⊥) → used (put (put_run m c n b) (c + n) b) x ≡ b
    before ih ne = used_put_other (put_run m c n b) (c + n) b x hb ne ∙ ih (omega arith)

pub used_run_other : (m : List ℕ) (c n b j : ℕ) → b < 2 → (j < c) ⊎ (c + n ≤ j) → used (put_run m c n b) j ≡ used m j
unfolding put_run
used_run_other m c zero b j hb h = refl
used_run_other m c (suc n) b j hb h =
    used_put_other (put_run m c n b) (c + n) b j hb (⊎_elim (λ p e. omega arith) (λ p e. omega arith) h)
    ∙ used_run_other m c n b j hb (⊎_elim inl (λ p. inr (omega arith)) h)

-- a map is determined by its 1,024 bits
pub map_ext : (m m' : List ℕ) → IsMap m → IsMap m' → ((c : ℕ) → c < 1024 → used m c ≡ used m' c) → m ≡ m'
map_ext m m' h h' same =
    ext_get_or 0 m m' (h.sixteen ∙ sym h'.sixteen)
    (λ i p. bits_ext 64 (get_or m i 0) (get_or m' i 0) (h.words i) (h'.words i)
    (λ k q. sym (used_at m i k q) ∙ same (64 * i + k) (omega (arith, h.sixteen)) ∙ used_at m' i k q))

-- a fresh map, [0; 16], is a map in which every cell is free
pub fresh_map : IsMap (replicate 16 0)
fresh_map = record { sixteen = refl; words = λ i. subst⁻¹ (λ (x : ℕ). x < 2 ^ 64) (get_d_fresh 16 i 0) (lit< tt) }

pub fresh_free : (c : ℕ) → used (replicate 16 0) c ≡ 0
unfolding used
fresh_free c = ap (λ (w : ℕ). bit w (c % 64)) (get_d_fresh 16 (c / 64) 0) ∙ no_bit (c % 64)

-- a run of n free cells at c: the cells lie in the map and are free
pub record FreeRun (m : List ℕ) (n c : ℕ) : Type 0 where
  pub within : c + n ≤ 1024
  pub free : (x : ℕ) → c ≤ x → x < c + n → used m x ≡ 0

-- cell d is c, where there is no run, or lies past it
past : (m : List ℕ) (n c : ℕ) → ¬ FreeRun m n c → (d : ℕ) → c ≤ d → (suc c ≤ d → ¬ FreeRun m n d) → ¬ FreeRun m n d
past m n c f d p g r = ⊎_elim (λ (e : d ≡ c). f (subst (FreeRun m n) e r)) (λ (ne : d ≡ c → ⊥). g (omega arith) r) (same_or_not d c)

free_step : (m : List ℕ) (c n : ℕ) → free_cells m c (suc n) ≡ (eqb (used m c) 0 and free_cells m (suc c) n)
unfolding free_cells
free_step m c n = by (eqb (used m c) 0)
  where
    by : (t : Bool) → (elim t as (λ _. Bool) [ true ↦ free_cells m (suc c) n | false ↦ false ]) ≡ (t and free_cells m (suc c) n)
    by true = refl
    by false = refl

-- what the test of n cells says, and what it asks
pub free_cells_lem : (m : List ℕ) (c n : ℕ) → free_cells m c n ≡ true → (x : ℕ) → c ≤ x → x < c + n → used m x ≡ 0
free_cells_lem m c zero e x p q = absurd (omega arith)
free_cells_lem m c (suc n) e x p q =
    let b = and_parts (eqb (used m c) 0) (free_cells m (suc c) n) (sym (free_step m c n) ∙ e) in
    ⊎_elim (λ (z : x ≡ c). ap (used m) z ∙ eqb-true (used m c) 0 b.0)
    (λ (z : x ≡ c → ⊥). free_cells_lem m (suc c) n b.1 x (omega arith) (omega arith)) (same_or_not x c)

pub cells_free : (m : List ℕ) (c n : ℕ) → ((x : ℕ) → c ≤ x → x < c + n → used m x ≡ 0) → free_cells m c n ≡ true
unfolding free_cells
cells_free m c zero h = refl
cells_free m c (suc n) h =
    free_step m c n
    ∙ and_true (eqb (used m c) 0) (free_cells m (suc c) n) (eq-eqb (used m c) 0 (h c (omega arith) (omega arith)))
    (cells_free m (suc c) n (λ x p q. h x (omega arith) (omega arith)))

-- the test finds just the free runs
pub run_found : (m : List ℕ) (n c : ℕ) → run_at m n c ≡ true → FreeRun m n c
unfolding run_at
run_found m n c e =
    let b = and_parts (leb (c + n) 1024) (free_cells m c n) e in
    record { within = leb-true (c + n) 1024 b.0; free = free_cells_lem m c n b.1 }

pub run_seen : (m : List ℕ) (n c : ℕ) → FreeRun m n c → run_at m n c ≡ true
unfolding run_at
run_seen m n c r = and_true (leb (c + n) 1024) (free_cells m c n) (le-leb (c + n) 1024 r.within) (cells_free m c n r.free)

-- what the search gives: nothing where no run starts among the k cells from c on, else the first of those runs
data Lowest (m : List ℕ) (n c k : ℕ) : ℕ → Type 0 where
  past_all : ((d : ℕ) → c ≤ d → d < c + k → ¬ FreeRun m n d) → Lowest m n c k none
  first_at : {r : ℕ} → FreeRun m n r → c ≤ r → r < c + k → ((d : ℕ) → c ≤ d → d < r → ¬ FreeRun m n d) → Lowest m n c k r

later : (m : List ℕ) (n c k : ℕ) {r : ℕ} → ¬ FreeRun m n c → Lowest m n (suc c) k r → Lowest m n c (suc k) r
later m n c k f (past_all g) = past_all (λ d p q. past m n c f d p (λ u. g d u (omega arith)))
later m n c k f (first_at run p q g) = first_at run (omega arith) (omega arith) (λ d u v. past m n c f d u (λ w. g d w v))

lowest_step : (m : List ℕ) (n c k : ℕ) → lowest_from m n c (suc k) ≡ pick (run_at m n c) c (lowest_from m n (suc c) k)
unfolding lowest_from
lowest_step m n c k = by (run_at m n c)
  where
    by : (t : Bool) → (elim t as (λ _. ℕ) [ true ↦ c | false ↦ lowest_from m n (suc c) k ]) ≡ pick t c (lowest_from m n (suc c) k)
    by true = refl
    by false = refl

lowest_from_lem : (m : List ℕ) (n c k : ℕ) → Lowest m n c k (lowest_from m n c k)
unfolding lowest_from
lowest_from_lem m n c zero = past_all (λ d p q. absurd (omega arith))
lowest_from_lem m n c (suc k) =
    rw (lowest_step m n c k)
    (by_test (Lowest m n c (suc k)) (run_at m n c)
    (λ e. first_at (run_found m n c e) (omega arith) (omega arith) (λ d p q. absurd (omega arith)))
    (λ e. later m n c k (λ r. clash (run_at m n c) (run_seen m n c r) e) (lowest_from_lem m n (suc c) k)))

-- r is the lowest free run of n cells, or says that there is none
pub data IsLowest (m : List ℕ) (n : ℕ) : ℕ → Type 0 where
  nowhere : ((d : ℕ) → ¬ FreeRun m n d) → IsLowest m n none
  found : {r : ℕ} → FreeRun m n r → ((d : ℕ) → d < r → ¬ FreeRun m n d) → IsLowest m n r

-- the run that the definition finds is free, in range, long enough and the lowest
pub lowest_is_lowest : (m : List ℕ) (n : ℕ) → 0 < n → IsLowest m n (lowest_run m n)
unfolding lowest_run
lowest_is_lowest m n h = by (lowest_from_lem m n 0 1024)
  where
    by : {r : ℕ} → Lowest m n 0 1024 r → IsLowest m n r
    by (past_all f) = nowhere (λ d run. f d (omega arith) (omega (arith, run.within)) run)
    by (first_at run p q f) = found run (λ d u. f d (omega arith) u)

-- and nothing else is: what a search in code has to show
pub lowest_unique : (m : List ℕ) (n : ℕ) {r q : ℕ} → IsLowest m n r → IsLowest m n q → r ≡ q
lowest_unique m n (nowhere f) (nowhere g) = refl
lowest_unique m n (nowhere f) (found run g) = absurd (f _ run)
lowest_unique m n (found run f) (nowhere g) = absurd (g _ run)
lowest_unique m n {r} {q} (found run f) (found run' g) =
    ⊎_elim (λ (p : r < q). absurd (g r p run))
    (λ (p : q ≤ r). ⊎_elim (λ (l : q < r). absurd (f q l run')) (λ (l : r ≤ q). omega arith) (order q r)) (order r q)

-- the parts of it that callers cite
pub lowest_free : (m : List ℕ) (n : ℕ) → 0 < n → ¬ (lowest_run m n ≡ none) → FreeRun m n (lowest_run m n)
lowest_free m n h ne = by (lowest_is_lowest m n h) ne
  where
    by : {r : ℕ} → IsLowest m n r → ¬ (r ≡ none) → FreeRun m n r
    by (nowhere f) ne = absurd (ne refl)
    by (found run f) ne = run

-- a run of no cells starts at cell 0
pub lowest_of_none : (m : List ℕ) → lowest_run m 0 ≡ 0
unfolding lowest_run lowest_from run_at free_cells
lowest_of_none m = refl

-- what is found is a cell or 65535, in sixteen bits
pub lowest_fits : (m : List ℕ) (n : ℕ) → lowest_run m n ≤ none
lowest_fits m zero = omega (arith, lowest_of_none m)
lowest_fits m (suc n) = by (lowest_is_lowest m (suc n) (omega arith))
  where
    by : {r : ℕ} → IsLowest m (suc n) r → r ≤ none
    by (nowhere f) = omega arith
    by (found run f) = omega (arith, run.within)
