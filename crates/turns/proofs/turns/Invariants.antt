-- `turns::turns` meets its contract. The invariant: the whole run is the turns that are left, on what is lent now (proofs/Loop).
use Rattle.std.proofs.Common.{◌≡◌, ◌-◌}
use Rattle.acts.specs.Acts.{lent}
use Rattle.turns.specs.Runs.{going, turns_from}
use Rattle.turns.proofs.turns.Given as goal

abbrev pub invariant-loop-i : goal.invariant-loop-i
invariant-loop-i l =
    turns_from l.steps 0 4096 (going (lent l.initial.control l.initial.arena l.initial.table) l.initial.slots l.initial.answer)
    ≡ turns_from l.steps l.i (4096 - l.i) (going (lent l.control l.arena l.table) l.slots l.answer)
