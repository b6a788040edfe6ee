-- `wire::numbers_in` meets its contract: i numbers are in.
use Rattle.std.proofs.Common.{◌≡◌, take}
use Rattle.wire.specs.Bytes.{each_at}
use Rattle.wire.proofs.numbers_in.Given as goal

abbrev pub invariant-loop-i : goal.invariant-loop-i
invariant-loop-i g l = let n = g.T.Number in take l.i l.out ≡ each_at n.number n.SIZE l.i l.b l.at
