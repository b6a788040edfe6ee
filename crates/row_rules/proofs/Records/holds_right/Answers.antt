-- `row_rules::Records::holds_right` meets its contract: each hold is asked.
use Rattle.std.proofs.Common.{◌∙◌, rules, tests}
use Rattle.std.proofs.lemmas.Iterator.{YieldsList-from_slice}
use Rattle.std.proofs.lemmas.Iterator.Search.{all_from_yields_List}
use Rattle.model.specs.Rules.{hold_right}
use Rattle.model.proofs.Lists.{all_listed}
use Rattle.row_rules.proofs.Records.holds_right.Goals as goal

pub returns : goal.returns
returns c =
    let control = c.args.self.control.now in
    let right = hold_right control.dir control.mv in
    all_from_yields_List right _ _ _ c.all.ensures.ran (YieldsList-from_slice c.args.holds (cc)) (λ x b q k. search (rules, tests))
    ∙ all_listed right c.args.holds
