-- `table::clear_marks` meets its contract. The invariant: the marks of the first i rows are cleared.
use Rattle.std.proofs.Common.{◌≡◌}
use Rattle.table.specs.Words.{each_row, clear_mark}
use Rattle.table.proofs.clear_marks.Given as goal

abbrev pub invariant-loop-i : goal.invariant-loop-i
invariant-loop-i l = l.t ≡ each_row clear_mark l.initial.t l.i
