-- A store is one more zero laid.
use Rattle.std.proofs.Common.{ℕ, List, ◌≡◌, ◌+◌, sym, ◌∙◌, arith}
use lib.ListN.{set, replicate}
use Rattle.model.specs.Arena.{payload_place, laid}
use Rattle.model.proofs.Records.{laid_none, laid_run_more}
use Rattle.record.proofs.clear_payload.Goals as goal

one_more : (entry : List ℕ) (cell i : ℕ) {arena : List ℕ} {at : ℕ} → arena ≡ laid entry (payload_place cell 0) (replicate i 0)
    → at ≡ payload_place cell i → set arena at 0 ≡ laid entry (payload_place cell 0) (replicate (i + 1) 0)
one_more entry cell i e p =
    let q : payload_place cell i ≡ payload_place cell 0 + i = omega arith in
    rw (e, p, q) (sym (laid_run_more entry (payload_place cell 0) i 0))

pub loop-i-init : goal.loop-i-init
loop-i-init c = (sym (laid_none _ _), omega arith)

pub loop-i-preserved : goal.loop-i-preserved
loop-i-preserved c = (c.store.ensures ∙ one_more _ _ _ c.loop-i.invariant.0 c.payload_place.ensures, omega arith)
