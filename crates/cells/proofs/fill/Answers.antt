-- `fill`: the chain gives the sum of the words' ones, and a word's ones are its used cells.
use Rattle.std.proofs.Common.{rules, tests, ◌≡◌, sym, ap, ◌∙◌, List, ℕ, zero, suc, ◌+◌, ◌*◌, ◌≤◌, take, get_or, sum_by, add-one, arith}
use Rattle.std.proofs.lemmas.Iterator.{YieldsList-from_slice, YieldsList-from_map}
use Rattle.std.proofs.lemmas.Iterator.Consumers.{sum_by_from_yields_List, fits_by_from_yields_list}
use Rattle.std.proofs.lemmas.List.Sums.{sum_by_more}
use lib.Count.{ones}
use lib.Seq.{take-length}
use Rattle.model.specs.Arena.{count_used, fill, IsMap}
use Rattle.model.proofs.MapCount.{count_word, count_le}
use Rattle.cells.proofs.fill.Goals as goal

-- the ones of the first i words are the used cells among the first 64 i
ones_so_far : (m : List ℕ) (i : ℕ) → IsMap m → i ≤ 16 → sum_by ones (take i m) ≡ count_used m (64 * i)
unfolding count_used
ones_so_far m zero h k = search rules
ones_so_far m (suc i) h k =
    ap (λ (j : ℕ). sum_by ones (take j m)) (sym (add-one i)) ∙ sum_by_more ones m i 0 (omega (arith, h.sixteen))
    ∙ ap (λ (n : ℕ). n + ones (get_or m i 0)) (ones_so_far m i h (omega arith)) ∙ sym (count_word m i h)
    ∙ ap (λ (j : ℕ). count_used m (64 * j)) (add-one i)

ones_fill : (m : List ℕ) → IsMap m → sum_by ones m ≡ fill m
unfolding fill
ones_fill m h = ap (sum_by ones) (sym (take-length m)) ∙ ap (λ (j : ℕ). sum_by ones (take j m)) h.sixteen ∙ ones_so_far m 16 h (omega arith)

pub sum-requires-clause-fits : goal.sum-requires-clause-fits
unfolding fill
sum-requires-clause-fits c =
    let m = c.args.map.now in
    fits_by_from_yields_list ones m c.map.result _
    (YieldsList-from_map _ ones (YieldsList-from_slice m cc) c.map.ensures.closure (λ x r q k. search (rules, tests)))
    (omega (arith, ones_fill m (record { sixteen = c.told-map; words = c.fits-map }), count_le m 1024))

pub returns : goal.returns
returns c =
    let m = c.args.map.now in
    sum_by_from_yields_List ones m c.map.result _ c.sum.ensures.ran
    (YieldsList-from_map _ ones (YieldsList-from_slice m cc) c.map.ensures.closure (λ x r q k. search (rules, tests)))
    ∙ ones_fill m (record { sixteen = c.told-map; words = c.fits-map })
