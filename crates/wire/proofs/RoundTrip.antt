-- Numbers and their bytes are the same said twice, each way once over the number of bytes: what is read from the bytes of numbers are the
-- numbers, and the bytes of what is read are the bytes read. Assumes nothing.
use mathlib.Core.Path.{◌≡◌, refl, sym, ap, ap₂, ◌∙◌}
use mathlib.Core.List.{List, [], ◌∷◌, ◌++◌, append_assoc}
use Prim.Native.Nat.{ℕ, zero, suc, ◌+◌, ◌*◌, ◌/◌, ◌%◌, ◌^◌, ◌≤◌, ◌<◌}
use native.Mathlib.Nat.{add-suc, mul-suc, mul-zero}
use native.Mathlib.Omega.{arith}
use lib.ListN.{length, get_or, take, drop}
use lib.Seq.{get_or-append-add, drop-cons, drop-drop, take-add}
use lib.Pow.{shr_lt}
use Rattle.model.specs.Choice.{All}
use Rattle.wire.specs.Bytes.{number, bytes, length_bytes, each_at, numbers, all_bytes}

-- w fits into k bytes
abbrev pub InBytes : ℕ → ℕ → Type 0
InBytes k w = w < 2 ^ (8 * k)

abbrev pub IsByte : ℕ → Type 0
IsByte = InBytes 1

-- what lies before does not matter
pub number_skip : (k : ℕ) (p q : List ℕ) (at : ℕ) → number k (p ++ q) (length p + at) ≡ number k q at
unfolding number
number_skip zero p q at = refl
number_skip (suc k) p q at =
    ap₂ (λ (x y : ℕ). x + 256 * y) (get_or-append-add p q at 0) (rw (← add-suc (length p) at) (number_skip k p q (suc at)))

pub numbers_skip : (k n : ℕ) (p q : List ℕ) (at : ℕ) → numbers k n (p ++ q) (length p + at) ≡ numbers k n q at
unfolding each_at
numbers_skip k zero p q at = refl
numbers_skip k (suc n) p q at =
    let e : length p + at + k ≡ length p + (at + k) = omega arith in
    ap₂ (λ (x : ℕ) (l : List ℕ). x ∷ l) (number_skip k p q at) (rw e (numbers_skip k n p q (at + k)))

-- From numbers to bytes and back

pub number_of_bytes : (k w : ℕ) (q : List ℕ) → InBytes k w → number k (bytes k w ++ q) 0 ≡ w
unfolding number bytes
number_of_bytes zero w q h = omega arith
number_of_bytes (suc k) w q h =
    let e : 8 * suc k ≡ 8 * k + 8 = omega arith in
    let r = bytes k (w / 256) ++ q in
    let s : number k (w % 256 ∷ r) 1 ≡ w / 256 =
    number_skip k (w % 256 ∷ []) r 0 ∙ number_of_bytes k (w / 256) q (shr_lt (8 * k) 8 (rw e at h)) in
    omega arith

pub numbers_of_all : (k : ℕ) (ws q : List ℕ) → All (InBytes k) ws → numbers k (length ws) (all_bytes k ws ++ q) 0 ≡ ws
unfolding each_at
numbers_of_all k [] q h = refl
numbers_of_all k (w ∷ ws) q h =
    let r = all_bytes k ws ++ q in
    let n : number k (bytes k w ++ r) 0 ≡ w = number_of_bytes k w r h.0 in
    let l : length (bytes k w) + 0 ≡ 0 + k = omega (arith, length_bytes k w) in
    rw (append_assoc (bytes k w) (all_bytes k ws) q)
    (ap₂ (λ (x : ℕ) (l : List ℕ). x ∷ l) n
    (ap (numbers k (length ws) (bytes k w ++ r)) (sym l) ∙ numbers_skip k (length ws) (bytes k w) r 0 ∙ numbers_of_all k ws q h.1))

-- From bytes to numbers and back

pub bytes_of_number : (k : ℕ) (b : List ℕ) (at : ℕ) → ((i : ℕ) → IsByte (get_or b i 0)) → at + k ≤ length b
    → bytes k (number k b at) ≡ take k (drop at b)
unfolding number bytes
bytes_of_number zero b at B h = refl
bytes_of_number (suc k) b at B h =
    let x = get_or b at 0 in
    let n = number k b (suc at) in
    let lo : (x + 256 * n) % 256 ≡ x = omega (arith, B at) in
    let hi : (x + 256 * n) / 256 ≡ n = omega (arith, B at) in
    rw (drop-cons b at 0 (omega arith), lo, hi) (ap (λ (l : List ℕ). x ∷ l) (bytes_of_number k b (suc at) B (omega arith)))

pub all_of_numbers : (k n : ℕ) (b : List ℕ) (at : ℕ) → ((i : ℕ) → IsByte (get_or b i 0)) → at + k * n ≤ length b
    → all_bytes k (numbers k n b at) ≡ take (k * n) (drop at b)
unfolding each_at
all_of_numbers k zero b at B h = rw (mul-zero k) refl
all_of_numbers k (suc n) b at B h =
    let e : k * suc n ≡ k + k * n = omega (arith, mul-suc k n) in
    rw (e, take-add k (k * n) (drop at b), drop-drop k at b)
    (ap₂ (λ (x y : List ℕ). x ++ y) (bytes_of_number k b at B (omega arith)) (all_of_numbers k n b (at + k) B (omega arith)))

-- one number is a list of it
pub numbers_one : (k : ℕ) (b : List ℕ) (at : ℕ) → numbers k 1 b at ≡ number k b at ∷ []
unfolding each_at
numbers_one k b at = refl
