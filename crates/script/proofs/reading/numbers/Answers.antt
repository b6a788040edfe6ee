-- `numbers`: at each turn the numbers left, laid from where it stands, make the list that all of them make.
use Rattle.std.proofs.Common.{◌∙◌, arith}
use Rattle.std.proofs.lemmas.Grind.{common_steps}
use Rattle.script.proofs.Cursors.{was_read, not_read}
use Rattle.script.proofs.Numbers.{number_takes}
use Rattle.script.proofs.Lines.{one_left, numbers_none, numbers_stop, numbers_go_on}
use Rattle.script.proofs.reading.numbers.Goals as goal

pub returns-in_default : goal.returns-in_default
returns-in_default c =
    let e = not_read c.number.ensures c.in_default.is in
    grind (arith, common_steps, one_left, numbers_stop)

pub overflow_add-cursor : goal.overflow_add-cursor
overflow_add-cursor c =
    let e = was_read c.number.ensures c.in-Some.is in
    grind (arith, common_steps, number_takes)

pub loop-word-preserved : goal.loop-word-preserved
loop-word-preserved c =
    let e = was_read c.number.ensures c.in-Some.is in
    record { text = c.number.ensures.text ∙ c.loop-word.invariant.text; words = grind (arith, common_steps, one_left, numbers_go_on) }

pub returns : goal.returns
returns c = grind (arith, common_steps, numbers_none)
