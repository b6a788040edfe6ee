-- `row_rules::Records::is_present` meets its contract: after R1 a present record is found by its label.
use Rattle.std.proofs.Common.{◌≡◌, ◌∙◌, rules}
use lib.Dec.{eqb}
use Rattle.model.specs.State.{entry}
use Rattle.model.specs.Arena.{meter_of, label}
use Rattle.row_rules.proofs.Present.{present_by_label}
use Rattle.row_rules.proofs.Records.is_present.Goals as goal

pub returns : goal.returns
returns c =
    let e : c.is_some_and.result ≡ eqb (entry c.args.self.control.now.dir (meter_of (label c.args.self.arena.now c.args.c))) c.args.c = search rules in
    e ∙ present_by_label c.args.self.control.now.dir c.args.self.arena.now c.args.c (search rules) c.args.self.right c.requires
