-- i zeros are laid.
use Rattle.std.proofs.Common.{◌-◌, ◌≡◌, ◌≤◌}
use lib.ListN.{replicate}
use Rattle.model.specs.Arena.{payload_place, laid}
use Rattle.record.proofs.clear_payload.Given as goal

abbrev pub invariant-loop-i : goal.invariant-loop-i
invariant-loop-i l = (l.arena ≡ laid l.initial.arena (payload_place l.cell 0) (replicate l.i 0)) × (l.i ≤ l.n)
