-- What a run of steps does to the control record, to the lent words of arena and table, and to the answer slots: on any contents.
-- proofs/Runs joins it to the model's steps one by one, on the words of rows.
use Rattle.std.specs.Prelude.{Bool, List, ◌≡◌, ℕ, zero, suc, ◌+◌, ◌*◌, ltb, length, set}
use Rattle.model.specs.declared.Answer.{Answer}
use Rattle.model.specs.declared.Control.{Control}
use Rattle.model.specs.Choice.{pick, ◌and◌}
use Rattle.model.specs.Steps.{Step, step, step_at}
use Rattle.answers.specs.declared.Told.{Told}
use Rattle.answers.specs.Answers.{told_as}
use Rattle.acts.specs.Acts.{Lent, Turn, turn_on}
use Rattle.turns.specs.declared.Numbers.{Numbers}

-- "five words each": the numbers of step i
abbrev pub numbers_at : List ℕ → ℕ → Numbers
numbers_at ws i =
    record { who = (step_at ws i).who; code = (step_at ws i).code; a = (step_at ws i).a; b = (step_at ws i).b; v = (step_at ws i).v }

abbrev pub step_of : Numbers → Step
step_of n = step n.who n.code n.a n.b n.v

-- A run: what is lent, the answer slots, and the last answer
pub record Going : Type 0 where
  pub lent : Lent
  pub slots : List ℕ
  pub last : Answer

abbrev pub going : Lent → List ℕ → Answer → Going
going l slots x = record { lent = l; slots = slots; last = x }

-- "a two-word answer slot for each"
unfoldable pub put_told : List ℕ → ℕ → Told → List ℕ
put_told slots i x = set (set slots (2 * i) x.number) (2 * i + 1) x.value

-- there is a step i, and a slot for it, among the 4,096
unfoldable pub has_step : ℕ → ℕ → ℕ → Bool
has_step words slots i = ltb i 4096 and ltb (5 * i + 4) words and ltb (2 * i + 1) slots

abbrev pub after : ℕ → Going → Turn → Going
after i g o = going o.next (put_told g.slots i (told_as o.answer)) o.answer

-- the steps from i on, as many as there are of the next n
unfoldable pub turns_from : List ℕ → ℕ → ℕ → Going → Going
turns_from ws i zero g = g
turns_from ws i (suc n) g =
    pick (has_step (length ws) (length g.slots) i) (turns_from ws (suc i) n (after i g (turn_on g.lent (step_at ws i)))) g

-- What a run does
pub record RunDoes (c : Control) (a t s : List ℕ) (r : Answer) (g : Going) : Type 0 where
  pub control : c ≡ g.lent.control
  pub arena : a ≡ g.lent.arena
  pub table : t ≡ g.lent.table
  pub slots : s ≡ g.slots
  pub answer : r ≡ g.last
