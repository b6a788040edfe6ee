-- The ones of the sixteen words, added up, are the used cells; what putting a cell or a run does to their number. Assumes nothing.
use mathlib.Core.Path.{◌≡◌, refl, sym, ap, ap₂, ◌∙◌}
use mathlib.Core.List.{List}
use mathlib.Core.Logic.{⊎_elim, inr}
use Prim.Native.Nat.{ℕ, zero, suc, ◌+◌, ◌*◌, ◌/◌, ◌%◌, ◌^◌, ◌≤◌, ◌<◌}
use native.Mathlib.Nat.{mod-lt, mod-eq_of_lt, mod-one, add_assoc, add_comm, add-zero, not-suc-le-zero, le_of_suc-le-suc}
use native.Mathlib.Omega.{arith}
use lib.ListN.{get_or}
use lib.Pow.{pow_pos, mod-pow-add}
use lib.Count.{ones, ones_cat}
use Rattle.model.specs.Arena.{bit, used, put, put_run, count_used, fill, IsMap}
use Rattle.model.proofs.Choice.{same_or_not}
use Rattle.model.proofs.CellMap.{used_at, used_lt, used_put, used_put_other, used_run_other, run_map}

-- a bit counts itself
ones_bit : (r : ℕ) → r < 2 → ones r ≡ r
unfolding ones
ones_bit zero h = refl
ones_bit (suc zero) h = refl
ones_bit (suc (suc r)) h = absurd (not-suc-le-zero (le_of_suc-le-suc (le_of_suc-le-suc h)))

-- the ones among the k low bits of w, one bit more
ones_more : (w k : ℕ) → ones (w % 2 ^ suc k) ≡ ones (w % 2 ^ k) + bit w k
unfolding bit
ones_more w k =
    ap ones (ap (λ (n : ℕ). w % 2 ^ n) (omega arith) ∙ mod-pow-add w 1 k)
    ∙ ones_cat k (w / 2 ^ k % 2) (w % 2 ^ k) (mod-lt w (pow_pos k))
    ∙ ap (λ (n : ℕ). n + ones (w % 2 ^ k)) (ones_bit (w / 2 ^ k % 2) (omega arith))
    ∙ add_comm (w / 2 ^ k % 2) (ones (w % 2 ^ k))

-- the first k cells of word i
count_part : (m : List ℕ) (i k : ℕ) → k ≤ 64 → count_used m (64 * i + k) ≡ count_used m (64 * i) + ones (get_or m i 0 % 2 ^ k)
unfolding count_used ones
count_part m i zero h =
    ap (count_used m) (add-zero (64 * i))
    ∙ sym (ap (λ (n : ℕ). count_used m (64 * i) + ones n) (mod-one (get_or m i 0)) ∙ add-zero (count_used m (64 * i)))
count_part m i (suc k) h =
    let e : 64 * i + suc k ≡ suc (64 * i + k) = omega arith in
    ap (count_used m) e
    ∙ ap₂ (λ (x y : ℕ). x + y) (count_part m i k (omega arith)) (used_at m i k (omega arith))
    ∙ add_assoc (count_used m (64 * i)) (ones (get_or m i 0 % 2 ^ k)) (bit (get_or m i 0) k)
    ∙ ap (λ (n : ℕ). count_used m (64 * i) + n) (sym (ones_more (get_or m i 0) k))

-- a whole word: what a loop over the words adds
pub count_word : (m : List ℕ) (i : ℕ) → IsMap m → count_used m (64 * (i + 1)) ≡ count_used m (64 * i) + ones (get_or m i 0)
count_word m i h =
    let e : 64 * (i + 1) ≡ 64 * i + 64 = omega arith in
    ap (count_used m) e ∙ count_part m i 64 (omega arith) ∙ ap (λ (n : ℕ). count_used m (64 * i) + ones n) (mod-eq_of_lt (h.words i))

pub count_le : (m : List ℕ) (n : ℕ) → count_used m n ≤ n
unfolding count_used
count_le m zero = omega arith
count_le m (suc n) = omega (arith, count_le m n, used_lt m n)

-- maps that agree on the first n cells count alike there
count_same : (m m' : List ℕ) (n : ℕ) → ((x : ℕ) → x < n → used m x ≡ used m' x) → count_used m n ≡ count_used m' n
unfolding count_used
count_same m m' zero h = refl
count_same m m' (suc n) h = ap₂ (λ (x y : ℕ). x + y) (count_same m m' n (λ x p. h x (omega arith))) (h n (omega arith))

-- a cell that is put takes its old bit out of the count and its new one in
count_put : (m : List ℕ) (c b n : ℕ) → IsMap m → b < 2 → c < n → c < 1024 → count_used (put m c b) n + used m c ≡ count_used m n + b
unfolding count_used
count_put m c b zero h hb p q = absurd (not-suc-le-zero p)
count_put m c b (suc n) h hb p q = ⊎_elim last (before (λ u. count_put m c b n h hb u q)) (same_or_not n c)
  where
    last : n ≡ c → (count_used (put m c b) n + used (put m c b) n) + used m c ≡ (count_used m n + used m n) + b
    last e =
        let below : count_used (put m c b) n ≡ count_used m n =
        count_same (put m c b) m n (λ x u. used_put_other m c b x hb (λ v. omega arith)) in
        let new : used (put m c b) n ≡ b = ap (used (put m c b)) e ∙ used_put m c b h q hb in
        let old : used m n ≡ used m c = ap (used m) e in
        omega arith

    before : (c < n → count_used (put m c b) n + used m c ≡ count_used m n + b) → (n ≡ c → ⊥)
        → (count_used (put m c b) n + used (put m c b) n) + used m c ≡ (count_used m n + used m n) + b
    before ih ne =
        let low : count_used (put m c b) n + used m c ≡ count_used m n + b = ih (omega arith) in
        let same : used (put m c b) n ≡ used m n = used_put_other m c b n hb ne in
        omega arith

-- a run of n cells that were all a, put to b
fill_run : (m : List ℕ) (c n a b : ℕ) → IsMap m → b < 2 → c + n ≤ 1024 → ((x : ℕ) → c ≤ x → x < c + n → used m x ≡ a)
    → fill (put_run m c n b) + n * a ≡ fill m + n * b
unfolding put_run fill
fill_run m c zero a b h hb p f = omega arith
fill_run m c (suc n) a b h hb p f =
    let before : fill (put_run m c n b) + n * a ≡ fill m + n * b = fill_run m c n a b h hb (omega arith) (λ x u v. f x u (omega arith)) in
    let old : used (put_run m c n b) (c + n) ≡ a =
    used_run_other m c n b (c + n) hb (inr (omega arith)) ∙ f (c + n) (omega arith) (omega arith) in
    omega (arith, count_put (put_run m c n b) (c + n) b 1024 (run_map m c n b h hb) hb (omega arith) (omega arith))

-- n free cells taken are n more; n used cells freed are n less
pub fill_taken : (m : List ℕ) (c n : ℕ) → IsMap m → c + n ≤ 1024 → ((x : ℕ) → c ≤ x → x < c + n → used m x ≡ 0)
    → fill (put_run m c n 1) ≡ fill m + n
fill_taken m c n h p f = omega (arith, fill_run m c n 0 1 h (omega arith) p f)

pub fill_freed : (m : List ℕ) (c n : ℕ) → IsMap m → c + n ≤ 1024 → ((x : ℕ) → c ≤ x → x < c + n → used m x ≡ 1)
    → fill (put_run m c n 0) + n ≡ fill m
fill_freed m c n h p f = omega (arith, fill_run m c n 1 0 h (omega arith) p f)
