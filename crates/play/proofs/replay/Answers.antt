-- `replay`: too long, a bad file, or a script that is performed; the output ends as its page does.
use Rattle.std.proofs.Common.{sym, ◌∙◌, rules}
use Rattle.play.proofs.Printed.{prints_too_long, prints_bad, prints_script}
use Rattle.play.proofs.replay.Goals as goal
use Rattle.play.proofs.replay.Goals.{in-Ok, in-Err}

pub returns-then-input-gt-MOST : goal.returns-then-input-gt-MOST
returns-then-input-gt-MOST c =
    prints_too_long c.args.input.now c.args.output.now c.new-page.result _ c.new-page.ensures.blank (search rules)
    c.if-input-gt-MOST.true c.put_too_long.ensures

pub returns : goal.returns
returns c =
    let small = c.if-input-gt-MOST.false in
    elim c.match-parse.branch [
      | in-Ok w ↦ prints_script c.args.input.now c.args.output.now c.new-page.result _ c.new-page.ensures.blank (search rules)
          w.in-Ok.script small (sym c.parse.ensures ∙ w.in-Ok.is) (rw (← w.page-is) at w.perform.ensures)
      | in-Err w ↦ prints_bad c.args.input.now c.args.output.now c.new-page.result _ c.new-page.ensures.blank (search rules)
          w.in-Err.bad small (sym c.parse.ensures ∙ w.in-Err.is) (rw (← w.page-is) at w.put_bad_file.ensures)
    ]
