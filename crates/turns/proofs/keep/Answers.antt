-- `turns::keep` meets its contract: ADVANCE on the move alone, or the keeper's step on the whole control record.
use Rattle.std.proofs.Common.{sym, ap, ◌∙◌}
use Rattle.model.specs.State.{with_move}
use Rattle.acts.specs.Acts.{lent}
use Rattle.acts.proofs.Names.{turn_by_move, turn_by_keeper}
use Rattle.turns.specs.Runs.{step_of}
use Rattle.turns.proofs.keep.Goals as goal

pub returns-then-by_move : goal.returns-then-by_move
returns-then-by_move c =
    let s = c.args in
    let e = rw c.all_passed-passed.ensures at c.by_move.ensures in
    let r = rw c.all_passed-passed.ensures at c.advance.ensures in
    rw (turn_by_move (lent s.control.now s.arena.now s.table.now) (step_of s.step) c.requires (sym e ∙ c.if-by_move.true))
    (record { control = ap (with_move s.control.now) r.next; arena = r.arena; table = r.table; answer = r.answer })

pub returns-else-by_move : goal.returns-else-by_move
returns-else-by_move c =
    let s = c.args in
    let e = rw c.all_passed-passed.ensures at c.by_move.ensures in
    rw (turn_by_keeper (lent s.control.now s.arena.now s.table.now) (step_of s.step) c.requires (sym e ∙ c.if-by_move.false))
    c.keep.ensures
