-- The text of a script, from its numbers: of numbers to 4294967295, two an admission, five a step, exactly these texts are read as scripts
-- (proofs/Accepted.antt, proofs/Accepts.antt).
use Rattle.std.specs.Prelude.{◌≡◌, List, [], ◌∷◌, ◌++◌, ℕ, zero, suc, ◌*◌, ◌≤◌, length, take, drop}
use Rattle.script.specs.Printing.{decimal, line1}

-- "one space between, each line ended by LF"
unfoldable pub line_rest : List ℕ → List ℕ
line_rest [] = 10 ∷ []
line_rest (n ∷ l) = 32 ∷ (decimal n ++ line_rest l)

unfoldable pub line_text : List ℕ → List ℕ
line_text [] = 10 ∷ []
line_text (n ∷ l) = decimal n ++ line_rest l

-- lines of w numbers each
unfoldable pub lines_text : ℕ → ℕ → List ℕ → List ℕ
lines_text zero w words = []
lines_text (suc n) w words = line_text (take w words) ++ lines_text n w (drop w words)

-- "Two sections, each after its count"
unfoldable pub script_text : ℕ → List ℕ → ℕ → List ℕ → List ℕ
script_text admissions words steps others =
    (line1 admissions ++ lines_text admissions 2 words) ++ (line1 steps ++ lines_text steps 5 others)

-- "Decimal numbers to 4294967295"
pub data Small : List ℕ → Type 0 where
  none : Small []
  more : {n : ℕ} {l : List ℕ} → n ≤ 4294967295 → Small l → Small (n ∷ l)

-- the numbers of a script, its counts among them
pub record ScriptNumbers (admissions : ℕ) (words : List ℕ) (steps : ℕ) (others : List ℕ) : Type 0 where
  pub few_admissions : admissions ≤ 4294967295
  pub few_steps : steps ≤ 4294967295
  pub two_each : length words ≡ 2 * admissions
  pub five_each : length others ≡ 5 * steps
  pub small_admissions : Small words
  pub small_steps : Small others
