-- `byrow::words_of`: the first i rows are stored over eight rows of zeros, and each of them has four holds.
use Rattle.std.proofs.Common.{◌≡◌}
use Rattle.table.specs.Words.{table_words}
use Rattle.byrow.proofs.Words.{first_rows, FourBelow}
use Rattle.byrow.proofs.words_of.Given as goal

abbrev pub invariant-loop-i : goal.invariant-loop-i
invariant-loop-i l = (l.words ≡ table_words (first_rows l.rows l.i)) × FourBelow l.rows l.i
