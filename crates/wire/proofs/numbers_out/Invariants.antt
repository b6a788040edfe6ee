-- `wire::numbers_out` meets its contract: the bytes of i numbers are laid.
use Rattle.std.proofs.Common.{◌≡◌, take}
use Rattle.std.specs.List.{flat_map}
use Rattle.model.specs.Arena.{laid}
use Rattle.wire.proofs.numbers_out.Given as goal

abbrev pub invariant-loop-i : goal.invariant-loop-i
invariant-loop-i g l = l.b ≡ laid l.initial.b l.at (flat_map g.T.Number.bytes (take l.i l.ws))
