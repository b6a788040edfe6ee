-- `fresh`: what the library makes fresh was reached by no step.
use Rattle.play.proofs.Archives.{fresh_reached, fresh_is}
use Rattle.play.proofs.Archive.fresh.Goals as goal

pub invariant_of-result : goal.invariant_of-result
invariant_of-result c = fresh_reached _ c.args.arena.now c.args.table.now c.told-arena c.told-table c.fresh.ensures

pub returns : goal.returns
returns c = fresh_is _ c.args.arena.now c.args.table.now c.told-arena c.told-table c.fresh.ensures
