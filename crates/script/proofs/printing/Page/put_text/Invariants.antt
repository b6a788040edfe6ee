-- `put_text`: at each turn the text is written as far as the turn has come.
use Rattle.std.proofs.Common.{take}
use Rattle.script.specs.Pages.{Writes}
use Rattle.script.proofs.printing.Page.put_text.Given as goal

abbrev pub invariant-loop-b : goal.invariant-loop-b
invariant-loop-b l = Writes l.initial.self l.self (take l.b-index l.text)
