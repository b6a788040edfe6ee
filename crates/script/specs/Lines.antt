-- 01, "Replay": "one space between, each line ended by LF. Two sections, each after its count: admissions `meter kind`, steps
-- `who code a b v`. A line that is wrong, missing or extra: prints only `bad file N`, N its line from 1".
use Rattle.std.specs.Prelude.{List, [], ◌∷◌, ℕ, zero, suc, ◌+◌, eqb, length, get_or, Option, Some, None, Result, Ok, Err, ok_or}
use Rattle.model.specs.Choice.{pick}
use Rattle.script.specs.declared.Section.{Section}
use Rattle.script.specs.declared.Script.{Script}
use Rattle.script.specs.declared.BadFile.{BadFile}
use Rattle.script.specs.Numbers.{Found, found, number_at}

-- what is read, or the first bad line; then what is read behind it
infixl 10 ◌>>=◌
abbrev pub ◌>>=◌ : {A B : Type 0} → Result A BadFile → (A → Result B BadFile) → Result B BadFile
Ok x >>= f = f x
Err e >>= f = Err e

abbrev pub bad : ℕ → BadFile
bad n = record { line = n }

-- a number at a place with the byte `mark` behind it, and the place behind the mark
abbrev pub marked : List ℕ → ℕ → Option Found → Option Found
marked s mark None = None
marked s mark (Some n) = pick (eqb (get_or s n.end 0) mark) (Some (found n.value (n.end + 1))) None

unfoldable pub field_at : List ℕ → ℕ → ℕ → Option Found
field_at s mark at = marked s mark (number_at s at)

-- "one space between, each line ended by LF": a line with so many spaces; its last number, and the place behind it
unfoldable pub line_at : List ℕ → ℕ → ℕ → Option Found
line_at s zero at = field_at s 10 at
line_at s (suc spaces) at = elim (field_at s 32 at) [ None ↦ None | Some n ↦ line_at s spaces n.end ]

-- `count` lines, the first of which is line `first`; the first wrong one, or the place behind them
unfoldable pub lines_at : List ℕ → ℕ → ℕ → ℕ → ℕ → Result ℕ BadFile
lines_at s zero spaces first at = Ok at
lines_at s (suc count) spaces first at = do
  n ← ok_or (line_at s spaces at) (bad first)
  lines_at s count spaces (first + 1) n.end

-- "each after its count"
unfoldable pub section_at : List ℕ → ℕ → ℕ → ℕ → Result Section BadFile
section_at s spaces first at = do
  n ← ok_or (line_at s 0 at) (bad first)
  end ← lines_at s n.value spaces (first + 1) n.end
  Ok (record { count = n.value; start = n.end; end = end })

-- "Two sections": an admission has one space, a step four; what follows the last line is an extra one
abbrev pub both : List ℕ → Section → Section → Result Script BadFile
both s admissions steps =
    pick (eqb steps.end (length s)) (Ok (record { admissions = admissions; steps = steps })) (Err (bad (admissions.count + steps.count + 3)))

unfoldable pub parse : List ℕ → Result Script BadFile
parse s = do
  admissions ← section_at s 1 1 0
  steps ← section_at s 4 (admissions.count + 2) admissions.end
  both s admissions steps

-- so many numbers, one behind the other, from a place on
unfoldable pub numbers_at : List ℕ → ℕ → ℕ → List ℕ
numbers_at s zero at = []
numbers_at s (suc n) at = elim (number_at s at) [ None ↦ [] | Some x ↦ x.value ∷ numbers_at s n (x.end + 1) ]
