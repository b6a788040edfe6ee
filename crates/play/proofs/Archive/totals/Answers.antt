-- `totals`: three counts of the control record, and two figures that are read.
use Rattle.play.proofs.Archives.{swaps_are}
use Rattle.play.proofs.Archive.totals.Goals as goal

pub returns : goal.returns
returns c =
    let swaps = swaps_are c.self.invariant c.args.self.now c.self.view_is in
    rw (c.all_swaps.ensures, swaps, c.fill.ensures, ← c.self.view_is)
