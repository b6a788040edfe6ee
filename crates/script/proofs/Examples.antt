-- 01's printed run, and texts on either side of each rule of the format, computed on the definition of the whole program.
use mathlib.Core.Path.{◌≡◌, refl}
use mathlib.Core.List.{List, [], ◌∷◌, map}
use Prim.Native.Nat.{ℕ}
use Prim.Native.String.{String}
use Rattle.model.specs.Choice.{every}
use Rattle.model.specs.Arena.{bit, with_bit, used, put, put_run, count_used, fill, free_cells, run_at, lowest_from, lowest_run, kind_table, of_kind}
use Rattle.model.specs.Arena.{laid}
use Rattle.model.specs.State.{rise}
use Rattle.model.specs.ClientSteps.{at_header, swap, forwarded}
use Rattle.model.specs.KeeperSteps.{barrier, replica_word, copy_word, settle}
use Rattle.model.specs.Steps.{act, steps_from}
use Rattle.script.specs.Numbers.{is_digit, digits, value_from, proper, number_at}
use Rattle.script.specs.Lines.{field_at, line_at, lines_at, section_at, parse, numbers_at}
use Rattle.script.specs.Printing.{bytes, decimal_in, decimal, line1, line2}
use Rattle.script.specs.Replay.{admissions_from, answer_lines, five_totals, printed, steps_run, admissions_run, replayed, replay_text}

-- what is read, and what is printed
pub record Example : Type 0 where
  pub read : String
  pub shown : String

infix 70 ◌prints◌
abbrev ◌prints◌ : String → String → Example
read prints shown = record { read = read; shown = shown }

-- with no steps, of a fresh state
abbrev nothing : String
nothing = "0\n0\n5\n0\n0\n0\n0\n0\n"

abbrev pub examples : List Example
examples =
    "2\n1 0\n2 0\n10\n0 2 1 0 0\n1 10 0 0 0\n1 12 2 0 0\n0 3 2 0 0\n0 4 0 0 0\n1 17 0 0 0\n0 4 0 0 0\n1 15 0 5 77\n1 16 0 0 0\n1 16 0 0 0\n"
    prints "2\n20 0\n20 1\n10\n30 0\n30 0\n30 0\n21 0\n22 0\n30 0\n23 0\n32 1\n33 1\n35 0\n5\n1\n0\n0\n1\n2\n"
    -- counts and their lines
    ∷ "0\n0\n" prints nothing
    ∷ "0\n1\n9 1 0 0 0\n" prints "0\n1\n3 0\n5\n0\n0\n0\n0\n0\n"
    ∷ "" prints "bad file 1\n"
    ∷ "\n0\n" prints "bad file 1\n"
    ∷ "0\n" prints "bad file 2\n"
    ∷ "2\n1 0\n0\n" prints "bad file 3\n"
    ∷ "4294967295\n1 0\n" prints "bad file 3\n"
    ∷ "0\n0\n0\n" prints "bad file 3\n"
    ∷ "0\n0\n\n" prints "bad file 3\n"
    ∷ "0\n1\n0 4 0 0 0\n1\n" prints "bad file 4\n"
    -- "each line ended by LF"
    ∷ "0\n0" prints "bad file 2\n"
    ∷ "0\n0\n0" prints "bad file 3\n"
    ∷ "0\r\n0\n" prints "bad file 1\n"
    -- "one space between"
    ∷ "1\n1  0\n0\n" prints "bad file 2\n"
    ∷ "1\n 1 0\n0\n" prints "bad file 2\n"
    ∷ "1\n1 0 \n0\n" prints "bad file 2\n"
    ∷ "1\n1\t0\n0\n" prints "bad file 2\n"
    ∷ "1\n1\n0\n" prints "bad file 2\n"
    ∷ "1\n1 0 0\n0\n" prints "bad file 2\n"
    ∷ "0\n1\n0 4 0 0\n" prints "bad file 3\n"
    ∷ "0\n1\n0 4 0 0 0 0\n" prints "bad file 3\n"
    -- "Decimal numbers to 4294967295, no needless leading zero"
    ∷ "1\n1 4294967295\n0\n" prints "1\n5 0\n0\n5\n0\n0\n0\n0\n0\n"
    ∷ "1\n1 4294967296\n0\n" prints "bad file 2\n"
    ∷ "1\n1 99999999999999999999\n0\n" prints "bad file 2\n"
    ∷ "1\n01 0\n0\n" prints "bad file 2\n"
    ∷ "00\n0\n" prints "bad file 1\n"
    ∷ "+0\n0\n" prints "bad file 1\n"
    ∷ "-0\n0\n" prints "bad file 1\n"
    ∷ "0x0\n0\n" prints "bad file 1\n"
    ∷ "0\0\n0\n" prints "bad file 1\n"
    ∷ []

abbrev replay : Example → List ℕ
replay x = replay_text (bytes x.read)

abbrev expected : Example → List ℕ
expected x = bytes x.shown

pub examples_hold : map replay examples ≡ map expected examples
unfolding
    kind_table of_kind laid bit with_bit used put put_run count_used fill free_cells run_at lowest_from lowest_run
    every rise at_header swap forwarded barrier
    replica_word copy_word settle act steps_from is_digit digits value_from proper number_at field_at line_at lines_at section_at parse numbers_at
    decimal_in decimal line1 line2 admissions_from answer_lines five_totals printed steps_run admissions_run replayed replay_text
examples_hold = refl
