-- What the code prints on: a lent page, and what is written on it.
use Rattle.std.specs.Prelude.{◌≡◌, List, ℕ}
use Rattle.script.specs.declared.printing.Page.{Page as Lent}
use Rattle.script.specs.Printing.{Page, page, written}

-- the lent bytes and the place of the next one
abbrev pub seen : Lent → Page
seen p = page p.out.now p.at

-- a text was written, on the bytes that were lent
pub record Writes (old new : Lent) (text : List ℕ) : Type 0 where
  pub same_reference : new.out.ghost_name ≡ old.out.ghost_name
  pub page : seen new ≡ written (seen old) text
