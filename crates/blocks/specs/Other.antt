-- Where "the move's other block" starts: the target in the first three stages, the old one in the third barrier. It is as long as the
-- record at the old cell.
use Rattle.std.specs.Prelude.{ℕ, Option, None, Some}
use Rattle.model.specs.declared.Move.{Move}
use Rattle.model.specs.declared.Stage.{Stage}
use Rattle.model.specs.declared.Stage.TheVariants.{NoMove, FirstBarrier, Copying, SecondBarrier, ThirdBarrier}

abbrev pub other_start : Stage → Move → Option ℕ
other_start NoMove v = None
other_start FirstBarrier v = Some v.target
other_start Copying v = Some v.target
other_start SecondBarrier v = Some v.target
other_start ThirdBarrier v = Some v.from
