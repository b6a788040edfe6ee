-- All numbers lowest byte first: a number in k bytes, and a list of such numbers.
use Rattle.std.specs.Prelude.{◌≡◌, refl, List, [], ◌∷◌, ℕ, zero, suc, ◌+◌, ◌*◌, ◌/◌, ◌%◌, length, get_or}
use Rattle.std.specs.List.{flat_map}
use Rattle.std.proofs.Common.{ap}

-- the number in the k bytes from place `at` on
unfoldable pub number : ℕ → List ℕ → ℕ → ℕ
number zero b at = 0
number (suc k) b at = get_or b at 0 + 256 * number k b (suc at)

-- the k bytes of a number
unfoldable pub bytes : ℕ → ℕ → List ℕ
bytes zero w = []
bytes (suc k) w = w % 256 ∷ bytes k (w / 256)

-- n of them, the next k bytes further on, by what stands at a place
unfoldable pub each_at : {T : Type 0} → (List ℕ → ℕ → T) → ℕ → ℕ → List ℕ → ℕ → List T
each_at get k zero b at = []
each_at get k (suc n) b at = get b at ∷ each_at get k n b (at + k)

-- the n numbers of k bytes each from place `at` on, and the bytes of a list of numbers
abbrev pub numbers : ℕ → ℕ → List ℕ → ℕ → List ℕ
numbers k n b at = each_at (number k) k n b at

abbrev pub all_bytes : ℕ → List ℕ → List ℕ
all_bytes k ws = flat_map (bytes k) ws

-- Laws

pub length_bytes : (k w : ℕ) → length (bytes k w) ≡ k
unfolding bytes
length_bytes zero w = refl
length_bytes (suc k) w = ap suc (length_bytes k (w / 256))
