-- 01, "Replay": "Decimal numbers to 4294967295, no needless leading zero". A text is a list of bytes, a place a number from 0.
use Rattle.std.specs.Prelude.{Bool, true, false, not, List, [], ◌∷◌, ℕ, ◌+◌, ◌-◌, ◌*◌, eqb, ltb, leb, length, get_or, drop, Option, Some, None}
use Rattle.model.specs.Choice.{pick, ◌and◌, ◌or◌}
use Rattle.script.specs.declared.Scanned.{Scanned}

-- the bytes `0` to `9`
unfoldable pub is_digit : ℕ → Bool
is_digit b = leb 48 b and leb b 57

-- the digits at the front of a text
unfoldable pub digits : List ℕ → List ℕ
digits [] = []
digits (b ∷ t) = elim (is_digit b) [ true ↦ b ∷ digits t | false ↦ [] ]

-- what digits write behind those of v
unfoldable pub value_from : ℕ → List ℕ → ℕ
value_from v [] = v
value_from v (b ∷ l) = value_from (v * 10 + (b - 48)) l

-- "no needless leading zero": of digits their first, and how many they are
abbrev pub plain : ℕ → ℕ → Bool
plain first count = not (eqb count 0) and (eqb count 1 or not (eqb first 48))

-- "to 4294967295" besides: what they write
unfoldable pub proper : ℕ → ℕ → ℕ → Bool
proper first count value = not (ltb 4294967295 value) and plain first count

-- a number and the place behind it
pub record Found : Type 0 where
  pub value : ℕ
  pub end : ℕ

abbrev pub found : ℕ → ℕ → Found
found value end = record { value = value; end = end }

-- the number at a place of a text, with the place behind it
abbrev pub number_of : ℕ → ℕ → List ℕ → Option Found
number_of at first ds = pick (proper first (length ds) (value_from 0 ds)) (Some (found (value_from 0 ds) (at + length ds))) None

unfoldable pub number_at : List ℕ → ℕ → Option Found
number_at s at = number_of at (get_or s at 0) (digits (drop at s))

-- what a scan finds at the front of a text: no value above 4294967295, and one digit more of a value
unfoldable pub capped : ℕ → Option ℕ
capped v = pick (ltb 4294967295 v) None (Some v)

abbrev pub more : Option ℕ → ℕ → Option ℕ
more None b = None
more (Some v) b = capped (v * 10 + (b - 48))

unfoldable pub scanned : List ℕ → Scanned
scanned t = record { value = capped (value_from 0 (digits t)); count = length (digits t) }
