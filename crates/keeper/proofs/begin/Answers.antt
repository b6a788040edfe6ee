-- `begin`: the record's cell has sixteen bits, so its flagged header is 01's word.
use Rattle.std.proofs.Common.{arith}
use Rattle.std.proofs.lemmas.Grind.{common_steps}
use Rattle.model.specs.State.{rise}
use Rattle.record.proofs.Words.{packed_flagged}
use Rattle.keeper.specs.Kept.{begin_step}
use Rattle.keeper.proofs.begin.Goals as goal

pub returns : goal.returns
unfolding begin_step rise
returns c = grind (arith, common_steps, packed_flagged c.in_ok-from.from (omega arith))
