-- Laws of a cursor: what it read was found, and where it read nothing, nothing is found.
use mathlib.Core.Path.{◌≡◌, sym, ap, ◌∙◌}
use Prim.Native.Nat.{ℕ}
use Rattle.std.specs.Prelude.{Option, Some, None, option_map}
use Rattle.script.specs.declared.reading.Cursor.{Cursor}
use Rattle.script.specs.Numbers.{Found, found}
use Rattle.script.specs.Cursors.{Reads}

pub was_read : {p q : Cursor} {r : Option ℕ} {x : Option Found} {v : ℕ} → Reads p q r x → r ≡ Some v → x ≡ Some (found v q.at)
was_read {q = q} h e = sym h.read ∙ ap (option_map (λ (v : ℕ). found v q.at)) e

pub not_read : {p q : Cursor} {r : Option ℕ} {x : Option Found} → Reads p q r x → r ≡ None → x ≡ None
not_read {q = q} h e = sym h.read ∙ ap (option_map (λ (v : ℕ). found v q.at)) e
