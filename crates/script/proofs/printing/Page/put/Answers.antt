-- `put`: there is room or not, as in the definition.
use Rattle.std.proofs.Common.{refl}
use Rattle.script.proofs.Pages.{writes_room, writes_full}
use Rattle.script.proofs.printing.Page.put.Goals as goal

pub returns-then-self : goal.returns-then-self
returns-then-self c = writes_room c.args.self.now _ c.args.b c.if-self.true refl refl refl

pub returns-else-self : goal.returns-else-self
returns-else-self c = writes_full c.args.self.now c.args.b c.if-self.false
