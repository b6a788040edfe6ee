-- What a call on rows does: its answer, the control record, each word of the arena and each row of the table, as the model's call
-- has them.
use Rattle.std.specs.Prelude.{◌≡◌, List, ℕ, Option, Some, None}
use Rattle.model.specs.declared.Row.{Row}
use Rattle.model.specs.declared.Answer.{Answer}
use Rattle.model.specs.State.{State, Outcome}
use Rattle.model.specs.Steps.{Ran}
use Rattle.rows.specs.Taken.{taken, put_back}
use Rattle.archive.specs.declared.Reply.{Reply}
use Rattle.byrow.specs.declared.Done.{Done}

-- the reply, and arena and table after the call: an answer x, and the state s
pub record Leaves (r : Reply) (a : List ℕ) (t : List Row) (x : Answer) (s : State) : Type 0 where
  pub answer : r.answer ≡ x
  pub control : r.control ≡ s.control
  pub arena : a ≡ s.arena
  pub table : t ≡ s.table

-- fresh and step
abbrev pub Does : Reply → List ℕ → List Row → Outcome → Type 0
Does r a t o = Leaves r a t o.answer o.next

-- the run: the answer slots besides
pub record Runs (r : Reply) (a : List ℕ) (t : List Row) (l : List ℕ) (o : Ran) : Type 0 where
  pub leaves : Leaves r a t o.answer o.next
  pub slots : l ≡ o.slots

-- fill and audit: they are lent arena and table to read alone
pub record Looks (r : Reply) (o : Outcome) : Type 0 where
  pub answer : r.answer ≡ o.answer
  pub control : r.control ≡ o.next.control

-- the table after a call on its rows: those that come back are put back; where none do, it is as it was
abbrev pub table_left : List Row → Option (List Row) → List Row
table_left t None = t
table_left t (Some rows) = put_back t rows

-- the same of the rows that were taken out of a table, whichever it was: eight come back, on a refusal too; where it had not eight, none do
pub record DoesRows (before : Option (List Row)) (d : Done) (a : List ℕ) (call : List Row → Outcome) : Type 0 where
  pub does : (t : List Row) → taken t ≡ before → Does d.reply a (table_left t d.rows) (call t)
  pub back : (rows : List Row) → before ≡ Some rows → d.rows ≡ Some (call rows).next.table
  pub other : before ≡ None → d.rows ≡ before

pub record RunsRows (before : Option (List Row)) (d : Done) (a l : List ℕ) (call : List Row → Ran) : Type 0 where
  pub runs : (t : List Row) → taken t ≡ before → Runs d.reply a (table_left t d.rows) l (call t)
  pub back : (rows : List Row) → before ≡ Some rows → d.rows ≡ Some (call rows).next.table
  pub other : before ≡ None → d.rows ≡ before

pub record LooksRows (before : Option (List Row)) (r : Reply) (call : List Row → Outcome) : Type 0 where
  pub looks : (t : List Row) → taken t ≡ before → Looks r (call t)
