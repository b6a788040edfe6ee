-- Laws of numbers in bytes, each once over the number of bytes, and of lists of numbers, each once over any number. Assumes nothing.
use mathlib.Core.Path.{◌≡◌, refl, sym, ap, ap₂, ◌∙◌}
use mathlib.Core.List.{List, [], ◌∷◌, ◌++◌, append-nil}
use Prim.Native.Nat.{ℕ, zero, suc, ◌+◌, ◌*◌, ◌/◌, ◌%◌, ◌^◌, ◌<◌, ◌≤◌, ◌-◌}
use native.Mathlib.Nat.{pow-suc, add-zero, div-one, div-div-eq-div-mul, mul-suc, mul-zero}
use native.Mathlib.Numerals.{add-one}
use native.Mathlib.Omega.{arith}
use lib.ListN.{length, get_or, set, take, drop, length-append}
use lib.Seq.{length-take-le}
use borrow.Rule.Slice.PartMut.{put_mid}
use Rattle.std.specs.Int.{byte_at, byte_worth, bytes_low_first, sum_through}
use Rattle.std.specs.List.{flat_map}
use Rattle.std.proofs.lemmas.List.{get_or-take, get_or-drop, take_more, take_more_set, flat_map_more}
use Rattle.model.specs.Arena.{laid}
use Rattle.model.proofs.Records.{laid_append}
use Rattle.wire.specs.Bytes.{number, bytes, length_bytes, each_at, numbers, all_bytes}

-- One number: std's bytes, lowest first, are these

number_more : (j : ℕ) (b : List ℕ) (at : ℕ) → number (suc j) b at ≡ number j b at + get_or b (at + j) 0 * 256 ^ j
unfolding number
number_more zero b at = let e : get_or b (at + 0) 0 ≡ get_or b at 0 = ap (λ (i : ℕ). get_or b i 0) (add-zero at) in omega arith
number_more (suc j) b at =
    let e : get_or b (at + suc j) 0 ≡ get_or b (suc at + j) 0 = ap (λ (i : ℕ). get_or b i 0) (omega arith) in
    let p : 256 ^ suc j ≡ 256 ^ j * 256 = pow-suc 256 j in
    rw (e, p) (omega (arith, number_more j b (suc at)))

number_one : (b : List ℕ) (at : ℕ) → number 1 b at ≡ get_or b at 0
unfolding number
number_one b at = add-zero (get_or b at 0)

sum_bytes : (j : ℕ) (b : List ℕ) (at : ℕ) → sum_through (λ i. byte_worth i (get_or b (at + i) 0)) j ≡ number (suc j) b at
sum_bytes zero b at = let e : get_or b (at + 0) 0 ≡ get_or b at 0 = ap (λ (i : ℕ). get_or b i 0) (add-zero at) in rw e (sym (number_one b at))
sum_bytes (suc j) b at = rw (number_more (suc j) b at, sum_bytes j b at) refl

sum_same : (f g : ℕ → ℕ) (n : ℕ) → ((i : ℕ) → i ≤ n → f i ≡ g i) → sum_through f n ≡ sum_through g n
sum_same f g zero h = h 0 (omega arith)
sum_same f g (suc n) h = ap₂ (λ (x y : ℕ). x + y) (sum_same f g n (λ i p. h i (omega arith))) (h (suc n) (omega arith))

pub number_le : (k : ℕ) (b : List ℕ) (at : ℕ) → 0 < k
    → number k b at ≡ sum_through (λ i. byte_worth i (get_or (take (at + k - at) (drop at b)) i 0)) (k - 1)
number_le zero b at h = absurd (omega arith)
number_le (suc j) b at h =
    let e : suc j - 1 ≡ j = omega arith in
    rw e
    (sym (sum_bytes j b at)
    ∙ sum_same _ _ j (λ i h. ap (byte_worth i) (sym (get_or-take (at + suc j - at) (drop at b) i 0 (omega arith) ∙ get_or-drop at b i 0))))

byte_is : (i w : ℕ) → byte_at i w ≡ w / 256 ^ i % 256
byte_is zero w = rw div-one refl
byte_is (suc i) w = refl

power_more : (i w : ℕ) → w / 256 ^ suc i ≡ w / 256 ^ i / 256
power_more i w = rw pow-suc (sym (div-div-eq-div-mul w (256 ^ i) 256))

bytes_le : (i k w : ℕ) → bytes_low_first i k w ≡ bytes k (w / 256 ^ i)
unfolding bytes
bytes_le i zero w = refl
bytes_le i (suc k) w =
    ap₂ (λ (x : ℕ) (l : List ℕ). x ∷ l) (byte_is i w)
    (bytes_le (suc i) k w ∙ ap (bytes k) (power_more i w))

laid_mid : (b : List ℕ) (at : ℕ) (xs : List ℕ) → at + length xs ≤ length b → put_mid at (length xs) b xs ≡ laid b at xs
unfolding laid
laid_mid [] zero [] h = refl
laid_mid [] zero (x ∷ xs) h = absurd (omega arith)
laid_mid [] (suc at) xs h = absurd (omega arith)
laid_mid (y ∷ b) zero [] h = refl
laid_mid (y ∷ b) zero (x ∷ xs) h = ap (λ (l : List ℕ). x ∷ l) (laid_mid b zero xs (omega arith))
laid_mid (y ∷ b) (suc at) xs h = ap (λ (l : List ℕ). y ∷ l) (laid_mid b at xs (omega arith))

pub put_le : (k w : ℕ) (b : List ℕ) (at : ℕ) (xs : List ℕ) → xs ≡ bytes_low_first 0 k w → at + k ≤ length b
    → put_mid at (at + k - at) b xs ≡ laid b at (bytes k w)
put_le k w b at xs e h =
    let p : xs ≡ bytes k w = e ∙ bytes_le 0 k w ∙ ap (bytes k) (div-one w) in
    let n : length (bytes k w) ≡ k = length_bytes k w in
    let m : at + k - at ≡ length (bytes k w) = omega arith in
    rw (p, m) (laid_mid b at (bytes k w) (omega arith))

-- One number more

module _ {T : Type 0} (get : List ℕ → ℕ → T) (k : ℕ) where
  each_suc : (n : ℕ) (b : List ℕ) (at : ℕ) → each_at get k (suc n) b at ≡ each_at get k n b at ++ get b (at + k * n) ∷ []
  unfolding each_at
  each_suc zero b at = let e : at ≡ at + k * 0 = omega (arith, mul-zero k) in ap (λ (i : ℕ). get b i ∷ []) e
  each_suc (suc n) b at =
      let e : at + k + k * n ≡ at + k * suc n = omega (arith, mul-suc k n) in
      ap (λ (l : List T). get b at ∷ l)
      (each_suc n b (at + k) ∙ ap (λ (i : ℕ). each_at get k n b (at + k) ++ get b i ∷ []) e)

  -- one number more is read
  pub one_in : (out : List T) (i : ℕ) (x : T) (b : List ℕ) (at : ℕ) → i < length out → take i out ≡ each_at get k i b at
      → x ≡ get b (at + k * i) → take (i + 1) (set out i x) ≡ each_at get k (i + 1) b at
  one_in out i x b at h e f =
      take_more_set out i x h ∙ ap₂ (λ (l : List T) (y : T). l ++ y ∷ []) e f ∙ rw add-one (sym (each_suc i b at))

  pub length_each : (n : ℕ) (b : List ℕ) (at : ℕ) → length (each_at get k n b at) ≡ n
  unfolding each_at
  length_each zero b at = refl
  length_each (suc n) b at = ap suc (length_each n b (at + k))

module _ {T : Type 0} (put : T → List ℕ) (k : ℕ) (sized : (w : T) → length (put w) ≡ k) where
  pub length_flat : (ws : List T) → length (flat_map put ws) ≡ k * length ws
  length_flat [] = sym (mul-zero k)
  length_flat (w ∷ ws) =
      length-append (put w) (flat_map put ws) ∙ omega (arith, sized w, length_flat ws, mul-suc k (length ws))

  -- one number more is put
  pub one_out : (ws : List T) (i : ℕ) (w : T) (b : List ℕ) (at : ℕ) {c d : List ℕ} → i < length ws → w ≡ get_or ws i w
      → c ≡ laid b at (flat_map put (take i ws)) → d ≡ laid c (at + k * i) (put w)
      → d ≡ laid b at (flat_map put (take (i + 1) ws))
  one_out ws i w b at h e f g =
      let done = flat_map put (take i ws) in
      let n : length done ≡ k * i = length_flat (take i ws) ∙ ap (λ (j : ℕ). k * j) (length-take-le i ws (omega arith)) in
      let more : take (i + 1) ws ≡ take i ws ++ w ∷ [] = take_more ws i w h ∙ ap (λ (x : T). take i ws ++ x ∷ []) (sym e) in
      rw f at g ∙ ap (λ (j : ℕ). laid (laid b at done) (at + j) (put w)) (sym n) ∙ laid_append b at done (put w)
      ∙ ap (laid b at) (flat_map_more put [] (take i ws) w ∙ ap (flat_map put) (sym more))

pub length_numbers : (k n : ℕ) (b : List ℕ) (at : ℕ) → length (numbers k n b at) ≡ n
length_numbers k = length_each (number k) k

pub length_all : (k : ℕ) (ws : List ℕ) → length (all_bytes k ws) ≡ k * length ws
length_all k = length_flat (bytes k) k (length_bytes k)

pub all_one : (k w : ℕ) → all_bytes k (w ∷ []) ≡ bytes k w
all_one k w = append-nil (bytes k w)
