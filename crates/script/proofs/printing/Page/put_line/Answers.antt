-- `put_line`: the digits, then LF.
use Rattle.script.specs.Printing.{line1}
use Rattle.script.proofs.Pages.{writes_then}
use Rattle.script.proofs.printing.Page.put_line.Goals as goal

pub returns : goal.returns
unfolding line1
returns c = writes_then c.put_number.ensures c.put.ensures
