-- `find_run`: no run starts below c; each turn goes from the next free cell to the used cell that ends its stretch.
use Rattle.std.proofs.Common.{sym, ap, ◌∙◌, ℕ, ◌<◌, arith, List}
use Rattle.model.specs.Arena.{lowest_run}
use Rattle.model.proofs.CellMap.{lowest_of_none}
use Rattle.cells.specs.Words.{found}
use Rattle.cells.proofs.Search.{ends_at_next, run_here, none_past, none_at_all, found_there, found_nowhere}
use Rattle.cells.proofs.find_run.Goals as goal

pub returns-then-n-eq0 : goal.returns-then-n-eq0
returns-then-n-eq0 c =
    let a = c.args in
    sym (ap (λ (k : ℕ). found (lowest_run a.map.now k)) c.if-n-eq0.true ∙ ap found (lowest_of_none a.map.now))

pub loop-start-smaller : goal.loop-start-smaller
loop-start-smaller c =
    let o = c.next_cell-in-Some in
    let e = ends_at_next c.args.map.now c.in-Some.start o.result (omega (arith, c.in-Some.ensures.1)) o.ensures in
    omega (arith, c.in-Some.ensures.0, c.in-Some.ensures.1)

pub returns-then-n-end : goal.returns-then-n-end
returns-then-n-end c =
    let m : List ℕ = c.args.map.now in
    let s = c.in-Some in
    let o = c.next_cell-in-Some in
    let pos : 0 < c.args.n = omega arith in
    found_there m c.args.n s.start pos s.ensures.1
    (run_here m c.args.n c.loop-start.c s.start o.result pos c.loop-start.invariant s.ensures o.ensures (omega arith))

pub loop-start-preserved : goal.loop-start-preserved
loop-start-preserved c =
    let s = c.in-Some in
    let o = c.next_cell-in-Some in
    rw c.unwrap_or-end.ensures
    (none_past c.args.map.now c.args.n c.loop-start.c s.start o.result (omega arith) c.loop-start.invariant s.ensures o.ensures (omega arith))

pub returns : goal.returns
returns c =
    let pos : 0 < c.args.n = omega arith in
    found_nowhere c.args.map.now c.args.n pos
    (none_at_all c.args.map.now c.args.n c.loop-start.c pos c.loop-start.invariant c.in_default.ensures)
