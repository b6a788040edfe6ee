-- `acts::keep`: each code's step is the one of that name; ADMIT has laid its record, and leaves nothing else to store.
use Rattle.std.proofs.Common.{arith}
use Rattle.std.proofs.lemmas.Grind.{common_steps}
use Rattle.keeper.proofs.Acts.{admit_still}
use Rattle.acts.proofs.keep.Goals.{in-1, in-2, in-3, in-4, in-0, in-0-2}
use Rattle.acts.proofs.keep.Goals as goal

pub returns-in-Ok : goal.returns-in-Ok
returns-in-Ok c =
    let l = c.args in
    elim c.match-code.branch [
      | in-1 w ↦ let s = admit_still l.control.now l.a l.b in rw w.in-1.is (grind (arith, common_steps))
      | in-2 w ↦ rw w.in-2.is (grind (arith, common_steps))
      | in-3 w ↦ rw w.in-3.is (grind (arith, common_steps))
      | in-4 w ↦ rw w.in-4.is (grind (arith, common_steps))
      | in-0 w ↦ grind (arith, common_steps)
      | in-0-2 w ↦ grind (arith, common_steps)
    ]
