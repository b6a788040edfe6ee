-- `wire::numbers_out` meets its contract: a number more is SIZE bytes more.
use Rattle.std.proofs.Common.{sym, arith, rules}
use Rattle.model.proofs.Records.{laid_none}
use Rattle.wire.proofs.Bytes.{one_out}
use Rattle.wire.proofs.numbers_out.Goals as goal

pub loop-i-init : goal.loop-i-init
loop-i-init g c = sym (laid_none _ _)

pub loop-i-preserved : goal.loop-i-preserved
loop-i-preserved g c =
    let n = g.T.Number in
    one_out n.bytes n.SIZE g.met.T.Number.length_bytes c.args.ws.now c.loop-i.i c.index-ws-i.result c.args.b.now c.args.at
    (omega arith) c.index-ws-i.is c.loop-i.invariant (search rules)
