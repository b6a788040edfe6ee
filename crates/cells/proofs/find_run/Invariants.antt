-- `find_run`: no run starts below c; each turn goes from the next free cell to the used cell that ends its stretch.
use Rattle.std.proofs.Common.{◌-◌}
use Rattle.cells.proofs.Search.{NoneBelow}
use Rattle.cells.proofs.find_run.Given as goal

abbrev pub invariant-loop-start : goal.invariant-loop-start
invariant-loop-start l = NoneBelow l.map l.n l.c

abbrev pub decreases-loop-start : goal.decreases-loop-start
decreases-loop-start l = 1024 - l.c
