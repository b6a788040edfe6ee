-- What a call of the library does: its answer, the control record, and each word of what is lent, as the model's call has them.
use Rattle.std.specs.Prelude.{◌≡◌, Bool, List, ℕ, eqb, ltb, length}
use Rattle.model.specs.declared.Row.{Row}
use Rattle.model.specs.declared.Control.{Control}
use Rattle.model.specs.declared.Answer.{Answer}
use Rattle.model.specs.Choice.{pick, ◌and◌}
use Rattle.model.specs.State.{State, state, Outcome, number}
use Rattle.model.specs.Steps.{Ran}
use Rattle.table.specs.Words.{table_words, rows_of}
use Rattle.archive.specs.declared.Reply.{Reply}

-- the state that is lent: what the table's words mean
abbrev pub meant : Control → List ℕ → List ℕ → State
meant c arena table = state c arena (rows_of table)

-- "All memory and the control record are then as before": a refused call leaves the table's words, whatever they mean
abbrev pub is_refused : Answer → Bool
is_refused x = ltb (number x) 20

unfoldable pub words_after : List ℕ → Answer → List Row → List ℕ
words_after table x rows = pick (is_refused x) table (table_words rows)

-- fresh and step: the table's words before it; the reply, arena and table after it
pub record CallDoes (before : List ℕ) (r : Reply) (a t : List ℕ) (o : Outcome) : Type 0 where
  pub answer : r.answer ≡ o.answer
  pub control : r.control ≡ o.next.control
  pub arena : a ≡ o.next.arena
  pub table : t ≡ words_after before o.answer o.next.table

-- the run: the answer slots besides
pub record RunDoes (before : List ℕ) (r : Reply) (a t s : List ℕ) (o : Ran) : Type 0 where
  pub answer : r.answer ≡ o.answer
  pub control : r.control ≡ o.next.control
  pub arena : a ≡ o.next.arena
  pub table : t ≡ words_after before o.answer o.next.table
  pub slots : s ≡ o.slots

-- fill and audit: they are lent arena and table to read alone
pub record LookDoes (r : Reply) (o : Outcome) : Type 0 where
  pub answer : r.answer ≡ o.answer
  pub control : r.control ≡ o.next.control

-- "arena is not 8,192 words, or table not eight rows" of twelve words
unfoldable pub right_sizes : List ℕ → List ℕ → Bool
right_sizes arena table = eqb (length arena) 8192 and eqb (length table) 96
