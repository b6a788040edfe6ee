-- `blocks::cells_right` meets its contract. The invariant: the map built has at each cell the sum of the blocks of the entries passed.
use Rattle.std.proofs.Common.{sym, ◌∙◌, arith, ℕ, ◌<◌, length}
use Rattle.std.proofs.lemmas.List.{get_or_default}
use Rattle.model.specs.Arena.{IsMap, none}
use Rattle.blocks.proofs.Seen.{seen_none, seen_more, seen_stops, end_none, end_same, end_stops}
use Rattle.blocks.proofs.cells_right.Goals as goal

pub loop-c-init : goal.loop-c-init
loop-c-init c = seen_none _ _

pub returns-then-not-lay_block : goal.returns-then-not-lay_block
returns-then-not-lay_block c =
    let a = c.args in
    let i : ℕ = c.loop-c.c-index in
    let h : i < length a.dir.now = omega arith in
    sym (seen_stops a.dir.now a.map.now a.mv a.arena.now c.loop-c.seen i _ h (get_or_default a.dir.now i 0 none h)
    c.loop-c.invariant (sym c.lay_block.ensures.free ∙ c.if-not-lay_block.true))

pub loop-c-preserved : goal.loop-c-preserved
loop-c-preserved c =
    let a = c.args in
    let i : ℕ = c.loop-c.c-index in
    let h : i < length a.dir.now = omega arith in
    rw c.lay_block.ensures.laid
    (seen_more a.dir.now a.map.now a.mv a.arena.now c.loop-c.seen i _ h (get_or_default a.dir.now i 0 none h)
    c.loop-c.invariant (sym c.lay_block.ensures.free ∙ c.if-not-lay_block.false))

pub returns-then-lay_block : goal.returns-then-lay_block
returns-then-lay_block c =
    let a = c.args in
    let hm : IsMap a.map.now = record { sixteen = c.told-map; words = c.fits-map } in
    c.eq.ensures
    ∙ rw c.lay_block-in-Some.ensures.laid
    (end_same a.dir.now a.map.now a.mv a.arena.now c.loop-c.seen c.loop-c.c-index hm (omega arith) c.loop-c.invariant c.in-Some.c
    c.in-Some.ensures (sym c.lay_block-in-Some.ensures.free ∙ c.if-lay_block.true))

pub returns-else-lay_block : goal.returns-else-lay_block
returns-else-lay_block c =
    let a = c.args in
    let hm : IsMap a.map.now = record { sixteen = c.told-map; words = c.fits-map } in
    c.if-lay_block.false
    ∙ sym (end_stops a.dir.now a.map.now a.mv a.arena.now c.loop-c.seen c.loop-c.c-index hm (omega arith) c.loop-c.invariant c.in-Some.c
    c.in-Some.ensures (sym c.lay_block-in-Some.ensures.free ∙ c.if-lay_block.false))

pub returns-in-None : goal.returns-in-None
returns-in-None c =
    let a = c.args in
    let hm : IsMap a.map.now = record { sixteen = c.told-map; words = c.fits-map } in
    c.eq-in-None.ensures
    ∙ end_none a.dir.now a.map.now a.mv a.arena.now c.loop-c.seen c.loop-c.c-index hm (omega arith) c.loop-c.invariant c.in-None.ensures
