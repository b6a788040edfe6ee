-- `table::put_words` meets its contract: the test holds for all twelve places, and words copied are words laid (proofs/Stores).
use Rattle.std.proofs.Common.{ap, ◌∙◌, ◌+◌, ◌*◌, ◌-◌, List, ℕ, length, arith}
use borrow.Author.Tests.{lt-ltb}
use borrow.Rule.Slice.PartMut.{put_mid}
use Rattle.table.proofs.Stores.{copy_laid}
use Rattle.table.proofs.put_words.Goals as goal

pub returns-then-k-t : goal.returns-then-k-t
returns-then-k-t c =
    let t = c.args.t.now in
    let at : ℕ = 12 * c.args.i + c.args.from in
    let n : ℕ = at + length c.args.words.now - at in
    rw (lt-ltb _ _ c.if-k-t.true)
    (ap (λ (ws : List ℕ). put_mid at n t ws) c.copy_from_slice.ensures.after ∙ copy_laid t at n c.args.words.now (omega arith) (omega arith))
