-- `scan`: at each turn what is found so far, and what is left of the text, give what the whole text gives.
use Rattle.std.proofs.Common.{arith}
use Rattle.script.proofs.Numbers.{ascii_digit, scan_all, scan_on, scan_stops, scan_ends}
use Rattle.script.proofs.reading.scan.Goals as goal

pub loop-b-init : goal.loop-b-init
loop-b-init c = grind (arith, scan_all)

pub more-value-requires : goal.more-value-requires
more-value-requires c = grind (arith, ascii_digit)

pub loop-b-preserved : goal.loop-b-preserved
loop-b-preserved c = grind (arith, ascii_digit, scan_on)

pub returns-after-loop-b : goal.returns-after-loop-b
returns-after-loop-b c = grind (arith, scan_ends)

pub returns-then-not-is_ascii_digit : goal.returns-then-not-is_ascii_digit
returns-then-not-is_ascii_digit c = grind (arith, ascii_digit, scan_stops)
