-- `headend::tangvrak_run` meets its contract: sizes first, then the run in as many words as are lent.
use Rattle.std.proofs.Common.{sym, ◌∙◌, ℕ, ◌*◌, arith}
use lib.ListN.{take, replicate}
use lib.Seq.{length-take-le}
use Rattle.headend.proofs.Exported.{run_wrong_buffer, run_wrong_sizes, run_through, four_times}
use Rattle.headend.proofs.tangvrak_run.Goals as goal

pub returns-in_default : goal.returns-in_default
returns-in_default c = rw c.wrong_size.ensures (run_wrong_buffer _ _ _ c.in_default.ensures.cases)

pub returns-in_default-run_steps : goal.returns-in_default-run_steps
returns-in_default-run_steps c =
    let all = c.in-Some.ensures.cases in
    rw (c.wrong_size-in_default-run_steps.ensures, all.same) (run_wrong_sizes _ _ _ all.long c.in_default-run_steps.ensures)

pub slice_bounds-run_words-end : goal.slice_bounds-run_words-end
slice_bounds-run_words-end c = sym (length-take-le _ (replicate 20480 0) (omega (arith, c.in-Some-run_steps.ensures.most)))

pub slice_bounds-run_words-end-2 : goal.slice_bounds-run_words-end-2
slice_bounds-run_words-end-2 c = sym (length-take-le _ (replicate 8192 0) (omega (arith, c.in-Some-run_steps.ensures.most)))

pub run_words-requires : goal.run_words-requires
run_words-requires c =
    let F = c.in-Some-run_steps.ensures in
    let n : ℕ = c.in-Some-run_steps.n in (
      four_times _ (5 * n) (replicate 20480 0) (omega (arith, F.most)) (omega (arith, F.words)),
      four_times _ (2 * n) (replicate 8192 0) (omega (arith, F.most)) (omega (arith, F.answers)),
    )

pub returns : goal.returns
returns c =
    let all = c.in-Some.ensures.cases in
    let F = c.in-Some-run_steps.ensures in
    let n : ℕ = c.in-Some-run_steps.n in
    run_through _ _ _ (take (5 * n) (replicate 20480 0)) (take (2 * n) (replicate 8192 0)) all.long F.fits
    (length-take-le (5 * n) (replicate 20480 0) (omega (arith, F.most)) ∙ omega (arith, F.words))
    (length-take-le (2 * n) (replicate 8192 0) (omega (arith, F.most)) ∙ omega (arith, F.answers))
    (rw all.same at c.run_words.ensures)
