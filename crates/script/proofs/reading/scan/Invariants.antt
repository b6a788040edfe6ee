-- `scan`: at each turn what is found so far, and what is left of the text, give what the whole text gives.
use Rattle.std.proofs.Common.{◌≡◌, drop}
use Rattle.script.specs.Numbers.{scanned}
use Rattle.script.proofs.Numbers.{scan_from}
use Rattle.script.proofs.reading.scan.Given as goal

abbrev pub invariant-loop-b : goal.invariant-loop-b
invariant-loop-b l = (scan_from l.value l.count (drop l.b-index l.text) ≡ scanned l.text) × (l.count ≡ l.b-index)
