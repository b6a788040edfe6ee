-- `next_cell`: every cell passed is of the other kind, and the hop ends at one that is sought.
use Rattle.std.proofs.Common.{◌-◌, ◌≤◌}
use Rattle.cells.specs.Words.{Passed}
use Rattle.cells.proofs.next_cell.Given as goal

abbrev pub invariant-loop-c : goal.invariant-loop-c
invariant-loop-c l = (l.from ≤ l.c) × Passed l.map l.from l.which l.c

abbrev pub decreases-loop-c : goal.decreases-loop-c
decreases-loop-c l = 1024 - l.c
