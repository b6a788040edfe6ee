-- `field`: each way is a law of field_at. A mark is no 0, so it stands within the text.
use Rattle.std.proofs.Common.{arith}
use Rattle.std.proofs.lemmas.Grind.{common_steps}
use Rattle.script.proofs.Cursors.{was_read}
use Rattle.script.proofs.Lines.{field_missing, field_marked, field_unmarked}
use Rattle.script.proofs.reading.Cursor.field.Goals as goal

pub returns-in_err-value : goal.returns-in_err-value
returns-in_err-value c = record { text = c.number.ensures.text; read = grind (arith, common_steps, field_missing) }

pub returns-then-byte-mark : goal.returns-then-byte-mark
returns-then-byte-mark c =
    let e = was_read c.number.ensures c.in_ok-value.was in
    record { text = c.number.ensures.text; read = grind (arith, field_unmarked) }

pub returns : goal.returns
returns c =
    let e = was_read c.number.ensures c.in_ok-value.was in
    record { text = c.number.ensures.text; read = grind (arith, field_marked) }
