-- `low_mask`: `1 << cells` is 2 ^ cells, since the run is short.
use Rattle.std.proofs.Common.{arith}
use Rattle.cells.specs.Words.{low_mask}
use Rattle.cells.proofs.Masks.{one_shl}
use Rattle.cells.proofs.Run.low_mask.Goals as goal

pub returns : goal.returns
unfolding low_mask
returns c = simp (one_shl c.args.self.cells (omega arith))
