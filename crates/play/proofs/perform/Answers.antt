-- `perform`: on a fresh archive the admissions, behind them the steps, then the totals.
use Rattle.std.proofs.Common.{arith}
use Rattle.script.proofs.Accepted.{script_fits}
use Rattle.play.proofs.Printed.{performs}
use Rattle.play.proofs.perform.Goals as goal

pub section-requires : goal.section-requires
section-requires c = omega (arith, c.requires.0, (script_fits c.args.input.now c.args.script c.requires.1).bytes)

pub section-requires-2 : goal.section-requires-2
section-requires-2 c = omega (arith, c.requires.0, (script_fits c.args.input.now c.args.script c.requires.1).bytes)

pub returns : goal.returns
returns c =
    performs c.args.input.now c.args.script (rw c.fresh-archive.ensures at c.section.ensures) c.section-2.ensures
    (rw c.totals.ensures at c.put_totals.ensures)
