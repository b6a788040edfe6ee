-- `line`: at each turn the line from where the cursor stands, with the spaces left, is the line from its start.
use Rattle.std.proofs.Common.{◌∙◌, arith}
use Rattle.std.proofs.lemmas.Grind.{common_steps}
use Rattle.script.proofs.Cursors.{was_read, not_read}
use Rattle.script.proofs.Lines.{one_left, line_ends, line_goes_on, line_breaks}
use Rattle.script.proofs.reading.Cursor.line.Goals as goal

pub returns-in_err-field : goal.returns-in_err-field
returns-in_err-field c =
    let e = not_read c.field.ensures c.in_err-field.was in
    record { text = c.field.ensures.text ∙ c.loop.invariant.text; read = grind (arith, common_steps, one_left, line_breaks) }

pub loop-preserved : goal.loop-preserved
loop-preserved c =
    let e = was_read c.field.ensures c.in_ok-field.was in
    record { text = c.field.ensures.text ∙ c.loop.invariant.text; line = grind (arith, one_left, line_goes_on) }

pub returns : goal.returns
returns c = record { text = c.field-2.ensures.text ∙ c.loop.invariant.text; read = grind (arith, line_ends) }
