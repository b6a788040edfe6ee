-- `buffer::state_out` meets its contract: directory, map, move, counts, arena and table, one behind the other, are all of the buffer.
use Rattle.std.proofs.Common.{◌≡◌, ap, ◌∙◌, List, [], ◌∷◌, ◌++◌, append-nil, append_assoc, arith}
use lib.ListN.{length}
use Rattle.model.specs.Arena.{laid}
use Rattle.model.proofs.Records.{laid_all}
use Rattle.wire.specs.Bytes.{all_bytes}
use Rattle.wire.proofs.Bytes.{length_all}
use Rattle.buffer.specs.Buffer.{Part, joined, move_parts, count_parts, control_parts, bytes_in}
use Rattle.buffer.proofs.Parts.{length_joined, laid_behind}
use Rattle.buffer.proofs.state_out.Goals as goal

pub returns : goal.returns
unfolding joined bytes_in
returns c =
    let b = c.args.b.now in
    let x = c.args.control.now in
    let d = all_bytes 2 x.dir in
    let m = all_bytes 8 x.map in
    let v = joined (move_parts x.mv) in
    let n = joined (count_parts x) in
    let a = all_bytes 4 c.args.arena.now in
    let t = all_bytes 4 c.args.table.now in
    let rest : List Part = (4, c.args.arena.now) ∷ (4, c.args.table.now) ∷ [] in
    let all = bytes_in x c.args.arena.now c.args.table.now in
    let z : length b ≡ length all = omega (arith, length_joined (control_parts x ++ rest)) in
    let e : d ++ (m ++ (v ++ (n ++ (a ++ t)))) ≡ all = simp (append_assoc, append-nil) in
    rw (c.numbers_out-3.ensures, c.counts_out.ensures, c.move_out.ensures, c.numbers_out-2.ensures, c.numbers_out.ensures) at c.numbers_out-4.ensures
    ∙ laid_behind (laid (laid (laid (laid b 0 d) 512 m) 640 v) 656 n) 668 32768 a t (omega (arith, length_all 4 c.args.arena.now))
    ∙ laid_behind (laid (laid (laid b 0 d) 512 m) 640 v) 656 12 n (a ++ t) (length_joined (count_parts x))
    ∙ laid_behind (laid (laid b 0 d) 512 m) 640 16 v (n ++ (a ++ t)) (length_joined (move_parts x.mv))
    ∙ laid_behind (laid b 0 d) 512 128 m (v ++ (n ++ (a ++ t))) (omega (arith, length_all 8 x.map))
    ∙ laid_behind b 0 512 d (m ++ (v ++ (n ++ (a ++ t)))) (omega (arith, length_all 2 x.dir))
    ∙ ap (laid b 0) e
    ∙ laid_all b all z
