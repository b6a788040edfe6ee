-- `put_text`: at each turn the text is written as far as the turn has come.
use Rattle.std.proofs.lemmas.List.{take_more}
use Rattle.script.proofs.Pages.{writes_then, writes_none}
use Rattle.script.proofs.printing.Page.put_text.Goals as goal

pub loop-b-init : goal.loop-b-init
loop-b-init c = writes_none c.args.self.now

pub loop-b-preserved : goal.loop-b-preserved
loop-b-preserved c = rw (take_more c.args.text.now c.loop-b.b-index 0 c.loop-b-test.true) (writes_then c.loop-b.invariant c.put.ensures)
