-- `put_pair`: the digits, a space, and a line of the second number.
use Rattle.script.specs.Printing.{line2}
use Rattle.script.proofs.Pages.{writes_then}
use Rattle.script.proofs.printing.Page.put_pair.Goals as goal

pub returns : goal.returns
unfolding line2
returns c = writes_then c.put_number.ensures (writes_then c.put.ensures c.put_line.ensures)
