-- What becomes of a call on the words of the rows.
use Rattle.std.specs.Prelude.{◌≡◌, List, ℕ, length, Option, Some, None}
use Rattle.std.specs.Fn.{CalledAtMut, Mut}
use denote.Ref.{MutBor}
use Rattle.model.specs.declared.Row.{Row}
use Rattle.model.specs.declared.Control.{Control}
use Rattle.model.specs.declared.Answer.TheVariants.{Refused}
use Rattle.model.specs.Choice.{All}
use Rattle.model.specs.Rows.{FourHolds}
use Rattle.table.specs.Words.{table_words, rows_read}
use Rattle.archive.specs.declared.Reply.{Reply}
use Rattle.byrow.specs.declared.Done.{Done}

-- 1 "table not eight rows"
abbrev pub turned_down : Control → Reply
turned_down c = record { control = c; answer = Refused 1 }

module _ {F : Type 0} (g : Mut F (MutBor (List ℕ) × Unit {0}) (Reply × (MutBor (List ℕ) × Unit {0}))) where
  -- f is called on the words of the rows, eight of four holds each, and the rows are read back from the words that it leaves
  pub record Worked (rows : List Row) (f : F) (d : Done) (f' : F) : Type 0 where
    pub eight : length rows ≡ 8
    pub holds : All FourHolds rows
    pub words : List ℕ
    pub called : CalledAtMut g f (table_words rows) d.reply f' words
    pub back : d.rows ≡ Some (rows_read words)

  -- where there are no rows, f is not called
  abbrev pub OnWords : Control → Option (List Row) → F → Done → F → Type 0
  OnWords c None f d f' = (d ≡ record { reply = turned_down c; rows = None }) × (f' ≡ f)
  OnWords c (Some rows) f d f' = Worked rows f d f'
