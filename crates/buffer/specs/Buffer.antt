-- 01: "In the exported form the archive and table lie in lent bytes of one fixed size." docs/LAYOUT.md has the same as a table.
use Rattle.std.specs.Prelude.{◌≡◌, List, [], ◌∷◌, ◌++◌, ℕ}
use Rattle.model.specs.declared.Move.{Move}
use Rattle.model.specs.declared.Control.{Control}
use Rattle.model.specs.State.{State, state}
use Rattle.table.specs.Words.{table_words, rows_of}
use Rattle.wire.specs.Bytes.{number, numbers, all_bytes}

abbrev pub buffer_size : ℕ
buffer_size = 33820

-- What the bytes mean

unfoldable pub move_in : List ℕ → Move
move_in b =
    record { stage = number 4 b 640; meter = number 4 b 644; from = number 2 b 648; target = number 2 b 650; copied = number 4 b 652 }

unfoldable pub control_in : List ℕ → Control
control_in b =
    record {
      dir = numbers 2 256 b 0;
      map = numbers 8 16 b 512;
      mv = move_in b;
      begun = number 4 b 656;
      committed = number 4 b 660;
      aborted = number 4 b 664;
    }

abbrev pub arena_in : List ℕ → List ℕ
arena_in b = numbers 4 8192 b 668

abbrev pub table_in : List ℕ → List ℕ
table_in b = numbers 4 96 b 33436

-- what is read out of the bytes: the control record, and each word of arena and table
pub record Decoded (c : Control) (a t b : List ℕ) : Type 0 where
  pub control : c ≡ control_in b
  pub arena : a ≡ arena_in b
  pub table : t ≡ table_in b

-- "Row bytes that mean no row, or a stage that is none, break R6 or R2.": by `rows_of` and by the rules
unfoldable pub state_in : List ℕ → State
state_in b = state (control_in b) (arena_in b) (rows_of (table_in b))

-- The bytes of a state: parts behind one another, each some numbers of so many bytes

abbrev pub Part : Type 0
Part = ℕ × List ℕ

unfoldable pub joined : List Part → List ℕ
joined [] = []
joined (x ∷ l) = all_bytes x.0 x.1 ++ joined l

abbrev pub move_parts : Move → List Part
move_parts v =
    (4, v.stage ∷ []) ∷ (4, v.meter ∷ []) ∷ (2, v.from ∷ []) ∷ (2, v.target ∷ []) ∷ (4, v.copied ∷ []) ∷ []

abbrev pub count_parts : Control → List Part
count_parts c = (4, c.begun ∷ []) ∷ (4, c.committed ∷ []) ∷ (4, c.aborted ∷ []) ∷ []

abbrev pub control_parts : Control → List Part
control_parts c = (2, c.dir) ∷ (8, c.map) ∷ (move_parts c.mv ++ count_parts c)

-- of the table its words, twelve to a row
unfoldable pub bytes_in : Control → List ℕ → List ℕ → List ℕ
bytes_in c arena table = joined (control_parts c ++ ((4, arena) ∷ (4, table) ∷ []))

unfoldable pub bytes_of : State → List ℕ
bytes_of s = bytes_in s.control s.arena (table_words s.table)
