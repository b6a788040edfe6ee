-- `byrow::words_of` meets its contract: row after row is stored over eight rows of zeros.
use Rattle.byrow.proofs.Words.{no_rows, one_row}
use Rattle.byrow.proofs.words_of.Goals as goal

pub loop-i-init : goal.loop-i-init
loop-i-init c = no_rows _

pub loop-i-preserved : goal.loop-i-preserved
loop-i-preserved c = one_row _ _ _ c.told-rows c.loop-i-test.true c.loop-i.invariant c.put.ensures.words c.put.ensures.holds
