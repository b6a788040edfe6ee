-- 01, "Replay": what is printed.
use Rattle.std.specs.Prelude.{true, false, List, [], ◌∷◌, ◌++◌, ℕ, zero, suc, ◌+◌, ◌/◌, ◌%◌, ltb, length, set}
use Prim.Native.Char.{code}
use Prim.Native.String.{String, [] as end, ◌∷◌ as ◌then◌}
use Rattle.model.specs.Choice.{pick}

-- "Decimal numbers .. no needless leading zero", in at most k + 1 digits
unfoldable pub decimal_in : ℕ → ℕ → List ℕ
decimal_in zero n = (n + 48) ∷ []
decimal_in (suc k) n = elim (ltb n 10) [ true ↦ (n + 48) ∷ [] | false ↦ decimal_in k (n / 10) ++ ((n % 10 + 48) ∷ []) ]

unfoldable pub decimal : ℕ → List ℕ
decimal n = decimal_in n n

-- a line of one number, and of two
unfoldable pub line1 : ℕ → List ℕ
line1 n = decimal n ++ (10 ∷ [])

unfoldable pub line2 : ℕ → ℕ → List ℕ
line2 a b = decimal a ++ (32 ∷ line1 b)

-- the bytes of a text
abbrev pub bytes : String → List ℕ
bytes end = []
bytes (c then t) = code c ∷ bytes t

abbrev pub bad_file : ℕ → List ℕ
bad_file n = bytes "bad file " ++ line1 n

abbrev pub too_long : List ℕ
too_long = bytes "too long\n"

-- lent bytes and the place of the next one; what has no room is not written
pub record Page : Type 0 where
  pub bytes : List ℕ
  pub at : ℕ

abbrev pub page : List ℕ → ℕ → Page
page bytes at = record { bytes = bytes; at = at }

unfoldable pub put : Page → ℕ → Page
put p b = pick (ltb p.at (length p.bytes)) (page (set p.bytes p.at b) (p.at + 1)) p

unfoldable pub written : Page → List ℕ → Page
written p [] = p
written p (b ∷ l) = written (put p b) l
