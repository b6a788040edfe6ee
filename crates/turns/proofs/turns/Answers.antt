-- `turns::turns` meets its contract. The invariant: the whole run is the turns that are left, on what is lent now (proofs/Loop).
use Rattle.std.proofs.Common.{◌≡◌, refl, ap, ◌∙◌, arith}
use Rattle.std.proofs.lemmas.List.{length-take}
use Rattle.model.specs.Steps.{step_at}
use Rattle.turns.specs.Runs.{step_of}
use Rattle.turns.proofs.Loop.{chunk_step, turns_more, turns_done}
use Rattle.turns.proofs.turns.Goals as goal

pub loop-i-init : goal.loop-i-init
loop-i-init c = refl

pub loop-i-preserved : goal.loop-i-preserved
loop-i-preserved c =
    let l = c.loop-i in
    let ws = c.args.steps.now in
    let n = c.min-n.result in
    let there = length-take n c.as_chunks.result.0.now in
    let e : step_of c.from.result ≡ step_at ws l.i =
    ap step_of (rw c.as_chunks.ensures.front at c.from.ensures) ∙ chunk_step ws l.i n (omega arith) (omega (arith, c.as_chunks.ensures.front_len)) in
    turns_more ws l.i _ l.control l.arena l.table l.slots l.answer l.invariant (omega (arith, c.as_chunks.ensures.front_len))
    (rw e at c.turn-answer.ensures) c.put_answer.ensures

pub returns : goal.returns
returns c =
    let l = c.loop-i in
    let there = length-take c.min-n.result c.as_chunks.result.0.now in
    let e = l.invariant ∙ turns_done c.args.steps.now l.i _ (omega (arith, c.as_chunks.ensures.front_len)) in
    rw e (record { control = refl; arena = refl; table = refl; slots = refl; answer = refl })
