-- `put_totals`: six lines, one behind the other.
use Rattle.script.specs.Replay.{five_totals}
use Rattle.script.proofs.Pages.{writes_then}
use Rattle.script.proofs.printing.Page.put_totals.Goals as goal

pub returns : goal.returns
unfolding five_totals
returns c =
    writes_then c.put_line.ensures (writes_then c.put_line-2.ensures (writes_then c.put_line-3.ensures
    (writes_then c.put_line-4.ensures (writes_then c.put_line-5.ensures c.put_line-6.ensures))))
