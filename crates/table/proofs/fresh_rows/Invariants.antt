-- `table::fresh_rows` meets its contract. The invariant: the first i rows are fresh.
use Rattle.std.proofs.Common.{◌≡◌}
use Rattle.table.specs.Words.{each_row, freshen}
use Rattle.table.proofs.fresh_rows.Given as goal

abbrev pub invariant-loop-i : goal.invariant-loop-i
invariant-loop-i l = l.t ≡ each_row freshen l.initial.t l.i
