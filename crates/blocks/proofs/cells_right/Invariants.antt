-- `blocks::cells_right` meets its contract. The invariant: the map built has at each cell the sum of the blocks of the entries passed.
use Rattle.blocks.proofs.Seen.{Seen}
use Rattle.blocks.proofs.cells_right.Given as goal

abbrev pub invariant-loop-c : goal.invariant-loop-c
invariant-loop-c l = Seen l.dir l.arena l.c-index l.seen
