-- 01, "On either side of each line": the P cases as a single table, and one claim about all its rows, which the checker computes.
use Rattle.std.specs.Prelude.{Bool, true, false, List, [], ◌∷◌, ◌++◌, ℕ, zero, suc, ◌*◌, T, eqb, take}
use Rattle.model.specs.Choice.{◌and◌, all, total}
use Rattle.model.specs.Arena.{kind_table, of_kind, laid, bit, with_bit, used, put, put_run, count_used, fill, free_cells, run_at, lowest_from}
use Rattle.model.specs.Arena.{lowest_run}
use Rattle.model.specs.Rows.{swaps_of}
use Rattle.model.specs.State.{State, rise, number, value, fresh}
use Rattle.model.specs.ClientSteps.{at_header, swap, forwarded}
use Rattle.model.specs.KeeperSteps.{barrier, replica_word, copy_word, settle}
use Rattle.model.specs.Steps.{Step, step, act}

-- a step with the answer and the value that it must get
pub record Line : Type 0 where
  pub done : Step
  pub answer : ℕ
  pub value : ℕ

infix 70 ◌gives◌with◌
infix 70 ◌leaves◌
abbrev ◌gives◌with◌ : Step → ℕ → ℕ → Line
t gives n with x = record { done = t; answer = n; value = x }

-- a case: its steps from fresh, and then the five totals: begun, committed, aborted, all swaps, fill
pub record Case : Type 0 where
  pub lines : List Line
  pub totals : List ℕ

abbrev ◌leaves◌ : List Line → List ℕ → Case
lines leaves totals = record { lines = lines; totals = totals }

-- the printed run
abbrev printed : List Line
printed =
    step 0 1 1 0 0 gives 20 with 0
    ∷ step 0 1 2 0 0 gives 20 with 1
    ∷ step 0 2 1 0 0 gives 30 with 0
    ∷ step 1 10 0 0 0 gives 30 with 0
    ∷ step 1 12 2 0 0 gives 30 with 0
    ∷ step 0 3 2 0 0 gives 21 with 0
    ∷ step 0 4 0 0 0 gives 22 with 0
    ∷ step 1 17 0 0 0 gives 30 with 0
    ∷ step 0 4 0 0 0 gives 23 with 0
    ∷ step 1 15 0 5 77 gives 32 with 1
    ∷ step 1 16 0 0 0 gives 33 with 1
    ∷ step 1 16 0 0 0 gives 35 with 0
    ∷ []

-- "eight ADVANCE give 24 with 1 to 8": n of them, the first copying word i
abbrev copies : ℕ → ℕ → List Line
copies i zero = []
copies i (suc n) = step 0 4 0 0 0 gives 24 with suc i ∷ copies (suc i) n

-- 1 "eight ADVANCE give 24 with 1 to 8; the next 22; after client 1 rests, 26, and fill is 1."
abbrev case1 : List Line
case1 =
    copies 0 8
    ++ (step 0 4 0 0 0 gives 22 with 0
    ∷ step 1 17 0 0 0 gives 30 with 0
    ∷ step 0 4 0 0 0 gives 26 with 0
    ∷ [])

-- 2 "word 5 of kind 0 is accepted, word 6 gets 14.": word 6 is tried first, since the READ that is accepted leaves the row busy
abbrev case2 : List Line
case2 = step 1 14 0 6 0 gives 14 with 0 ∷ step 1 14 0 5 0 gives 31 with 1 ∷ []

-- 3 "fresh, 128 admissions of kind 3 fit;": n of them, from meter m on
abbrev admissions : ℕ → ℕ → List Line
admissions m zero = []
admissions m (suc n) = step 0 1 m 3 0 gives 20 with (8 * m) ∷ admissions (suc m) n

-- "the next of any kind gets 12."
abbrev case3 : List Line
case3 =
    admissions 0 128
    ++ (step 0 1 128 0 0 gives 12 with 0
    ∷ step 0 1 128 1 0 gives 12 with 0
    ∷ step 0 1 128 2 0 gives 12 with 0
    ∷ step 0 1 128 3 0 gives 12 with 0
    ∷ [])

-- 4 "RETIRE of meter 2 gets 8; after case 1, 11; after DROP too, 30."
abbrev case4 : List Line
case4 =
    (step 0 2 2 0 0 gives 8 with 0 ∷ [])
    ++ case1
    ++ (step 0 2 2 0 0 gives 11 with 0
    ∷ step 1 13 0 0 0 gives 30 with 0
    ∷ step 0 2 2 0 0 gives 30 with 0
    ∷ [])

-- 5 "fresh, one record: BEGIN gets 13."
abbrev case5 : List Line
case5 = step 0 1 0 0 0 gives 20 with 0 ∷ step 0 3 0 0 0 gives 13 with 0 ∷ []

-- 6 "who 8 code 10 gets 30; who 9 gets 3; who 0 code 10 gets 4."
abbrev case6 : List Line
case6 = step 8 10 0 0 0 gives 30 with 0 ∷ step 9 10 0 0 0 gives 3 with 0 ∷ step 0 10 0 0 0 gives 4 with 0 ∷ []

-- 7 "the same run up to its second 0 4 0 0 0, then eight ADVANCE and a REST of client 1: a WRITE then loads the flag after passing
-- the second barrier, the mover commits, GO gives 33 value 0, and the write lands in the new block."
abbrev case7 : List Line
case7 =
    copies 0 8
    ++ (step 1 17 0 0 0 gives 30 with 0
    ∷ step 1 15 0 5 77 gives 32 with 1
    ∷ step 0 4 0 0 0 gives 25 with 0
    ∷ step 1 16 0 0 0 gives 33 with 0
    ∷ step 1 16 0 0 0 gives 35 with 0
    ∷ step 1 14 0 5 0 gives 31 with 0
    ∷ step 1 16 0 0 0 gives 34 with 77
    ∷ [])

-- 8 "GO when resting gets 9; READ when ready gets 8."
abbrev case8 : List Line
case8 = step 1 16 0 0 0 gives 9 with 0 ∷ step 1 14 0 5 0 gives 31 with 1 ∷ step 1 14 0 5 0 gives 8 with 0 ∷ []

-- begun, committed, aborted, all swaps, fill
abbrev table : List Case
table =
    printed leaves (1 ∷ 0 ∷ 0 ∷ 1 ∷ 2 ∷ [])
    ∷ (printed ++ case1) leaves (1 ∷ 0 ∷ 1 ∷ 1 ∷ 1 ∷ [])
    ∷ (printed ++ case2) leaves (1 ∷ 0 ∷ 0 ∷ 1 ∷ 2 ∷ [])
    ∷ case3 leaves (0 ∷ 0 ∷ 0 ∷ 0 ∷ 1024 ∷ [])
    ∷ (printed ++ case4) leaves (1 ∷ 0 ∷ 1 ∷ 1 ∷ 0 ∷ [])
    ∷ case5 leaves (0 ∷ 0 ∷ 0 ∷ 0 ∷ 1 ∷ [])
    ∷ (printed ++ case6) leaves (1 ∷ 0 ∷ 0 ∷ 1 ∷ 2 ∷ [])
    ∷ (take 9 printed ++ case7) leaves (1 ∷ 1 ∷ 0 ∷ 1 ∷ 2 ∷ [])
    ∷ (printed ++ case8) leaves (1 ∷ 0 ∷ 0 ∷ 1 ∷ 2 ∷ [])
    ∷ []

-- what a case says of the state that it has come to
abbrev totals_of : State → List ℕ
totals_of s =
    let c = s.control in
    c.begun ∷ c.committed ∷ c.aborted ∷ total swaps_of s.table ∷ fill c.map ∷ []

abbrev same : List ℕ → List ℕ → Bool
same [] [] = true
same [] (y ∷ ys) = false
same (x ∷ xs) [] = false
same (x ∷ xs) (y ∷ ys) = eqb x y and same xs ys

-- the lines are played by `act`: on what is reached from fresh the tests of a step find nothing, demands' `step_after`
abbrev plays : State → List Line → List ℕ → Bool
plays s [] totals = same (totals_of s) totals
plays s (l ∷ ls) totals =
    let o = act s l.done in
    eqb (number o.answer) l.answer and eqb (value o.answer) l.value and plays o.next ls totals

abbrev passes : Case → Bool
passes c = plays fresh c.lines c.totals

-- THE CLAIM: every row of the table passes
pub cases_pass : T (all passes table)
unfolding kind_table of_kind laid bit with_bit used put put_run count_used fill free_cells run_at lowest_from lowest_run
    rise at_header swap forwarded barrier replica_word copy_word settle act
cases_pass = tt
