-- `record_rules::records_right` meets its contract: R1 at each entry is R1 of each meter.
use Rattle.std.proofs.Common.{ℕ, ◌∙◌, rules, tests}
use Rattle.std.proofs.lemmas.Iterator.{YieldsList-from_slice}
use Rattle.std.proofs.lemmas.Iterator.Consumers.{YieldsList-from_enumerate}
use Rattle.std.proofs.lemmas.Iterator.Search.{all_from_yields_List}
use Rattle.model.proofs.Lists.{all_entries}
use Rattle.model.specs.Rules.{record_right, R1}
use Rattle.record_rules.specs.Entries.{record_at}
use Rattle.record_rules.proofs.records_right.Goals as goal

pub returns : goal.returns
unfolding R1 record_right record_at
returns c =
    let dir = c.args.control.now.dir in
    let right = record_at c.args.arena.now in
    all_from_yields_List (λ (p : ℕ × ℕ). right p.0 p.1) _ _ _ c.all.ensures.ran
    (YieldsList-from_enumerate (YieldsList-from_slice dir (cc)) (cc)) (λ x b q k. search (rules, tests))
    ∙ all_entries right dir (search rules)
