use Rattle.std.proofs.Common.{◌<◌, ◌^◌, arith}
use Rattle.model.specs.ClientSteps.{swap}
use Rattle.model.specs.Arena.{place, header}
use Rattle.record.proofs.Words.{packed_plain}
use Rattle.clients.proofs.swap.Goals as goal

pub returns-then-eq : goal.returns-then-eq
unfolding swap
returns-then-eq c =
    let fits : header c.args.arena.now c.args.cell < 2 ^ 32 = omega (arith, c.type_inv.arena (place c.args.cell 0)) in
    grind (arith, packed_plain)
