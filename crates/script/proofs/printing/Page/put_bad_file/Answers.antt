-- `put_bad_file`: the words, then a line of the number.
use Rattle.script.proofs.Pages.{writes_then}
use Rattle.script.proofs.printing.Page.put_bad_file.Goals as goal

pub returns : goal.returns
returns c = writes_then c.put_text.ensures c.put_line.ensures
