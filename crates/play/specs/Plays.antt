-- What is played: the steps of a section from its numbers, the archive that they reach, and what is printed.
use Rattle.std.specs.Prelude.{◌≡◌, List, [], ◌∷◌, ◌++◌, ℕ, zero, suc, ◌*◌, ◌≤◌, length, take}
use Rattle.model.specs.declared.Control.{Control}
use Rattle.model.specs.Arena.{fill}
use Rattle.model.specs.State.{State}
use Rattle.model.specs.Steps.{Step, step, act, Ran, one_by_one, step_at}
use Rattle.demands.specs.Log.{after}
use Rattle.table.specs.Words.{table_words}
use Rattle.turns.specs.declared.Numbers.{Numbers}
use Rattle.script.specs.declared.Script.{Script}
use Rattle.script.specs.declared.printing.Page.{Page}
use Rattle.script.specs.declared.printing.Totals.{Totals}
use Rattle.script.specs.Lines.{numbers_at}
use Rattle.script.specs.Printing.{page, written}
use Rattle.script.specs.Pages.{Writes}
use Rattle.script.specs.Replay.{admission_at, answer_lines, all_swaps, printed, first_run, second_run}
-- for the program, which knows `play` alone
pub use Rattle.script.specs.Replay.{replay_text}
use Rattle.script.specs.Sizes.{Short, Sized}
use Rattle.play.specs.declared.Lines.{Lines}
use Rattle.play.specs.declared.Lines.TheVariants.{Admissions, Steps}

-- "admissions `meter kind`, steps `who code a b v`": line i of a section, and the n lines from i on
abbrev pub step_in : Lines → List ℕ → ℕ → Step
step_in Admissions words i = admission_at words i
step_in Steps words i = step_at words i

unfoldable pub steps_in : Lines → List ℕ → ℕ → ℕ → List Step
steps_in lines words i zero = []
steps_in lines words i (suc n) = step_in lines words i ∷ steps_in lines words (suc i) n

abbrev pub per_line : Lines → ℕ
per_line Admissions = 2
per_line Steps = 5

-- the run of a section's n lines, from its words and from its text
abbrev pub run_in : State → Lines → List ℕ → ℕ → Ran
run_in s lines words n = one_by_one act s (steps_in lines words 0 n)

abbrev pub section_run : State → Lines → List ℕ → ℕ → ℕ → Ran
section_run s lines text start n = run_in s lines (numbers_at text (per_line lines * n) start) n

abbrev pub numbers_of : Step → Numbers
numbers_of t = record { who = t.who; code = t.code; a = t.a; b = t.b; v = t.v }

abbrev pub step_of : Numbers → Step
step_of x = step x.who x.code x.a x.b x.v

abbrev pub one_step : State → Numbers → Ran
one_step s x = one_by_one act s (step_of x ∷ [])

-- "five totals: begun, committed, aborted, all swaps, fill"
abbrev pub totals_of : State → Totals
totals_of s =
    let c = s.control in
    record { begun = c.begun; committed = c.committed; aborted = c.aborted; swaps = all_swaps s.table; fill = fill c.map }

-- what is lent is the state s
pub record Holds (s : State) (c : Control) (a t : List ℕ) : Type 0 where
  pub control : c ≡ s.control
  pub arena : a ≡ s.arena
  pub table : t ≡ table_words s.table

-- what is lent was reached by steps from fresh
pub record Reached (c : Control) (a t : List ℕ) : Type 0 where
  pub steps : List Step
  pub holds : Holds (after steps) c a t

-- steps were run: the archive before and after them, and behind a first text a line for each
pub record Plays (before after : State) (p q : Page) (first : List ℕ) (run : Ran) : Type 0 where
  pub next : after ≡ run.next
  pub prints : Writes p q (first ++ answer_lines run.slots)
  pub short : Short run.slots

-- a script was performed: the page, and the sizes of what it has
pub record Performs (s : List ℕ) (k : Script) (p q : Page) : Type 0 where
  pub prints : Writes p q (printed k.admissions.count k.steps.count (first_run s k) (second_run s k))
  pub sized : Sized (first_run s k) (second_run s k)

-- a text is printed: all that the page has room for, in its first r bytes; 229,440 bytes have room for the whole of it
pub record Prints (before out : List ℕ) (r : ℕ) (text : List ℕ) : Type 0 where
  pub page : page out r ≡ written (page before 0) text
  pub within : r ≤ length out
  pub counted : r ≡ length (take r out)
  pub whole : 229440 ≤ length before → take r out ≡ text
