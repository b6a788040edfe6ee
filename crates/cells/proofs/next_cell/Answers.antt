-- `next_cell`: every cell passed is of the other kind, and the hop ends at one that is sought.
use Rattle.std.proofs.Common.{◌≡◌, ap, ◌∙◌, ℕ, ◌+◌, ◌/◌, ◌%◌, ◌^◌, ◌<◌, arith, List}
use lib.Count.{count_trailing_zeros}
use Rattle.model.specs.Arena.{used, IsMap}
use Rattle.cells.proofs.Search.{hop, hop_inside, hop_hit, further}
use Rattle.cells.proofs.next_cell.Goals as goal

pub returns-then-ahead-lt64 : goal.returns-then-ahead-lt64
returns-then-ahead-lt64 c =
    let at : ℕ = c.loop-c.c in
    let m : List ℕ = c.args.map.now in
    let which = c.args.which in
    let h : IsMap m = record { sixteen = c.told-map; words = c.fits-map } in
    let e : count_trailing_zeros 64 (c.ones_of.result / 2 ^ (at % 64)) ≡ hop m at which =
    ap (λ (w : ℕ). count_trailing_zeros 64 (w / 2 ^ (at % 64))) c.ones_of.ensures in
    let z : hop m at which < 64 = omega arith in
    let i : at % 64 + hop m at which < 64 = hop_inside m at which h z in (
      omega arith,
      omega arith,
      further m c.args.from at which _ h c.loop-c.invariant.1 (omega arith) (omega arith),
      ap (λ (k : ℕ). used m (at + k)) e ∙ hop_hit m at which h z,
    )

pub loop-c-preserved : goal.loop-c-preserved
loop-c-preserved c =
    let at : ℕ = c.loop-c.c in
    let m : List ℕ = c.args.map.now in
    let h : IsMap m = record { sixteen = c.told-map; words = c.fits-map } in
    let e : count_trailing_zeros 64 (c.ones_of.result / 2 ^ (at % 64)) ≡ hop m at c.args.which =
    ap (λ (w : ℕ). count_trailing_zeros 64 (w / 2 ^ (at % 64))) c.ones_of.ensures in
    (omega arith, further m c.args.from at c.args.which _ h c.loop-c.invariant.1 (omega arith) (omega arith))
