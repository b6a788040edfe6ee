-- 01, "Replay": the whole program, the bytes that it reads to the bytes that it prints.
use Rattle.std.specs.Prelude.{List, [], ◌∷◌, ◌++◌, ℕ, zero, suc, ◌+◌, ◌*◌, ltb, length, get_or, Result, Ok, Err}
use Rattle.model.specs.declared.Row.{Row}
use Rattle.model.specs.Choice.{pick, total}
use Rattle.model.specs.Arena.{fill}
use Rattle.model.specs.Rows.{swaps_of}
use Rattle.model.specs.State.{State, fresh}
use Rattle.model.specs.Steps.{Step, step, act, Ran, one_by_one, steps_from}
use Rattle.script.specs.declared.Script.{Script}
use Rattle.script.specs.declared.BadFile.{BadFile}
use Rattle.script.specs.Lines.{parse, numbers_at}
use Rattle.script.specs.Printing.{line1, line2, bad_file, too_long}

-- "admissions `meter kind`": the steps 0 1 meter kind 0, n of them from the i-th on
abbrev pub admission_at : List ℕ → ℕ → Step
admission_at words i = step 0 1 (get_or words (2 * i) 0) (get_or words (2 * i + 1) 0) 0

unfoldable pub admissions_from : List ℕ → ℕ → ℕ → List Step
admissions_from words i zero = []
admissions_from words i (suc n) = admission_at words i ∷ admissions_from words (suc i) n

-- "answer and value": a line for each slot
unfoldable pub answer_lines : List ℕ → List ℕ
answer_lines [] = []
answer_lines (n ∷ []) = []
answer_lines (n ∷ v ∷ slots) = line2 n v ++ answer_lines slots

-- "five totals: begun, committed, aborted, all swaps, fill"
unfoldable pub five_totals : ℕ → ℕ → ℕ → ℕ → ℕ → List ℕ
five_totals begun committed aborted swaps filled =
    line1 5 ++ (line1 begun ++ (line1 committed ++ (line1 aborted ++ (line1 swaps ++ line1 filled))))

abbrev pub all_swaps : List Row → ℕ
all_swaps table = total swaps_of table

abbrev pub total_lines : State → List ℕ
total_lines s =
    let c = s.control in
    five_totals c.begun c.committed c.aborted (all_swaps s.table) (fill c.map)

-- "Output, each section after its count"
unfoldable pub printed : ℕ → ℕ → Ran → Ran → List ℕ
printed admissions steps first then =
    line1 admissions ++ (answer_lines first.slots ++ (line1 steps ++ (answer_lines then.slots ++ total_lines then.next)))

-- the admissions from fresh, and the steps behind them, one by one
unfoldable pub admissions_run : List ℕ → ℕ → ℕ → Ran
admissions_run s count at = one_by_one act fresh (admissions_from (numbers_at s (2 * count) at) 0 count)

unfoldable pub steps_run : List ℕ → ℕ → ℕ → Ran → Ran
steps_run s count at first = one_by_one act first.next (steps_from (numbers_at s (5 * count) at) 0 count)

-- the two runs of a script
abbrev pub first_run : List ℕ → Script → Ran
first_run s k = admissions_run s k.admissions.count k.admissions.start

abbrev pub second_run : List ℕ → Script → Ran
second_run s k = steps_run s k.steps.count k.steps.start (first_run s k)

-- "prints only `bad file N`, N its line from 1; nothing is run"
unfoldable pub replayed : List ℕ → Result Script BadFile → List ℕ
replayed s (Err e) = bad_file e.line
replayed s (Ok k) = printed k.admissions.count k.steps.count (first_run s k) (second_run s k)

-- "at most 65,536 bytes (else prints `too long`)"
unfoldable pub replay_text : List ℕ → List ℕ
replay_text s = pick (ltb 65536 (length s)) too_long (replayed s (parse s))
