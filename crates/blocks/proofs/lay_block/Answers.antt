-- `lay_block`: a record has at most eight cells, so its run may be put by masks; beyond the arena's cells none is laid.
use Rattle.std.proofs.Common.{sym, arith}
use Rattle.model.specs.Arena.{cells_at, IsMap}
use Rattle.model.proofs.ByKind.{cells_short}
use Rattle.blocks.proofs.Seen.{far_free, far_laid}
use Rattle.blocks.proofs.lay_block.Goals as goal

pub returns-then-c-ge-CELLS : goal.returns-then-c-ge-CELLS
returns-then-c-ge-CELLS c =
    let a = c.args in
    let h : IsMap a.seen.now = record { sixteen = c.told-seen; words = c.fits-seen } in
    record {
      free = sym (far_free a.seen.now a.c (cells_at a.arena.now a.from) h (omega arith));
      laid = sym (far_laid a.seen.now a.c (cells_at a.arena.now a.from) h (omega arith));
    }

pub invariant_of-run : goal.invariant_of-run
invariant_of-run c = record { short = rw c.lengths_at.ensures (cells_short _) }
