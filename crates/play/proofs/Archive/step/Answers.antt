-- `step`: the library's step is the model's, and its answer's number and value are printed.
use Rattle.std.proofs.Common.{Fits, w32, rules}
use Rattle.play.proofs.Archives.{step_reached, step_plays}
use Rattle.play.proofs.Archive.step.Goals as goal

pub invariant_of-self : goal.invariant_of-self
invariant_of-self c = step_reached c.self.invariant c.args.s c.step-reply.ensures

pub returns : goal.returns
returns c =
    let f : Fits w32 c.from-told.result.value = search rules in
    step_plays c.self.invariant c.args.self.now c.args.s c.self.view_is c.step-reply.ensures
    (rw c.from-told.ensures at c.put_pair.ensures) (rw c.from-told.ensures at f.fits)
