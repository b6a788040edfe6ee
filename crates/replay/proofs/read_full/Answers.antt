-- `read_full`: what a read puts behind the filled front is consumed after it, and an interrupted read consumes nothing.
use Rattle.std.proofs.Common.{◌≡◌, ℕ, List, ◌+◌, ◌-◌, ◌≤◌, ◌++◌, length, take, sym, ◌∙◌, append_assoc, rules, arith, Some, None, Option, length-take-le}
use Rattle.std.proofs.lemmas.List.{take_at, drop_at, take-append-le}
use Rattle.std.proofs.Math.Seq.{take-add}
use Rattle.std.specs.Io.KnownBytes.{Consumes, Keeps}
use borrow.Rule.Slice.PartMut.{put_mid, post_of, take_put}
use Rattle.replay.proofs.read_full.Goals as goal
use Rattle.replay.proofs.read_full.Goals.{in-Ok, in-Err}

-- the front and what was read behind it
filled : (at k n : ℕ) (old new : List ℕ) → at ≤ length old → n ≤ length new
    → take (at + n) (put_mid at k old new) ≡ take at old ++ take n new
filled at k n old new h f =
    let front = length-take-le at old h in
    let rest = post_of at k old in
    take-add at n (put_mid at k old new)
    ∙ rw (take_at (take at old) (new ++ rest) at front, drop_at (take at old) (new ++ rest) at front, take-append-le n new rest f)

then_read : (known mid left : Option (List ℕ)) (front more : List ℕ) → Consumes known mid front → Consumes mid left more
    → Consumes known left (front ++ more)
then_read None mid left front more p q = tt
then_read (Some xs) None left front more p q = absurd p
then_read (Some xs) (Some ys) None front more p q = absurd q
then_read (Some xs) (Some ys) (Some zs) front more p q = rw (p, q) (sym (append_assoc front more zs))

then_kept : (known mid left : Option (List ℕ)) (front : List ℕ) → Consumes known mid front → Keeps mid left → Consumes known left front
then_kept None mid left front p q = tt
then_kept (Some xs) None left front p q = absurd p
then_kept (Some xs) (Some ys) None front p q = absurd q
then_kept (Some xs) (Some ys) (Some zs) front p q = rw q p

pub loop-preserved : goal.loop-preserved
loop-preserved g c =
    let n = c.loop.n in
    let room = length c.loop.buffer - n in
    let after = put_mid n room c.loop.buffer c.read.new.buf in
    let same : length after ≡ length c.args.buffer.now = search rules in
    record {
      same_length = same;
      within = elim c.match-read.branch [
        | in-Ok w ↦ omega (arith, w.in-Ok.ensures.bound.0)
        | in-Err w ↦ omega arith
      ];
      filled = elim c.match-read.branch [
        | in-Ok w ↦ rw (w.n-is, filled n room w.in-Ok.more c.loop.buffer c.read.new.buf c.loop.invariant.within w.in-Ok.ensures.bound.0)
            (then_read _ _ _ _ _ c.loop.invariant.filled w.in-Ok.ensures.bytes.0)
        | in-Err w ↦ rw (w.n-is, take_put n room c.loop.buffer c.read.new.buf c.loop.invariant.within)
            (then_kept _ _ _ _ c.loop.invariant.filled w.in-Err.ensures.bytes)
      ];
    }
