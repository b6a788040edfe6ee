-- `section`: no count, or its lines, which end or break.
use Rattle.std.proofs.Common.{◌≡◌, ◌∙◌, arith}
use Rattle.std.proofs.lemmas.Grind.{common_steps}
use Rattle.std.specs.Prelude.{Some, None}
use Rattle.script.proofs.Cursors.{was_read, not_read}
use Rattle.script.proofs.Lines.{one_left, lines_end, lines_turn, lines_break, section_uncounted, section_wrong_line, section_whole}
use Rattle.script.proofs.reading.Cursor.section.Goals as goal

pub returns-in_err-count-clause-value : goal.returns-in_err-count-clause-value
returns-in_err-count-clause-value c =
    let n : c.line.result ≡ None = grind (arith, common_steps) in
    let e = not_read c.line.ensures n in
    grind (arith, common_steps, section_uncounted)

pub returns-in_err-ok_or-clause-value : goal.returns-in_err-ok_or-clause-value
returns-in_err-ok_or-clause-value c =
    let v : c.line.result ≡ Some c.in_ok-count.count = grind (arith, common_steps) in
    let e = was_read c.line.ensures v in
    let n : c.line-in-loop-i.result ≡ None = grind (arith, common_steps) in
    let d = not_read c.line-in-loop-i.ensures n in
    grind (arith, common_steps, one_left, lines_break, section_wrong_line)

pub loop-i-preserved : goal.loop-i-preserved
loop-i-preserved c =
    let v : c.line-in-loop-i.result ≡ Some c.in_ok-ok_or.field-0 = grind (arith, common_steps) in
    let e = was_read c.line-in-loop-i.ensures v in
    record { text = c.line-in-loop-i.ensures.text ∙ c.loop-i.invariant.text; lines = grind (arith, lines_turn) }

pub returns-clause-value : goal.returns-clause-value
returns-clause-value c =
    let v : c.line.result ≡ Some c.in_ok-count.count = grind (arith, common_steps) in
    let e = was_read c.line.ensures v in
    grind (arith, lines_end, section_whole)
