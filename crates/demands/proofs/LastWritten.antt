-- Demand 2: a step that is answered 34 or 35 finishes an access, and the value of a read is the last one that the log says was written.
-- Assumes nothing.
use mathlib.Core.Path.{◌≡◌, refl, sym, ◌∙◌, subst}
use mathlib.Core.Bool.{true, false}
use mathlib.Core.List.{List}
use Prim.Native.Nat.{ℕ, ◌≤◌}
use native.Mathlib.Omega.{arith}
use Rattle.model.specs.declared.Access.{Access}
use Rattle.model.specs.declared.Access.TheVariants.{Read, Write}
use Rattle.model.specs.Rows.{is_write, word_of}
use Rattle.model.specs.State.{number, value}
use Rattle.model.specs.Steps.{Step, act}
use Rattle.model.proofs.Choice.{clash}
use Rattle.demands.specs.Log.{line, after, log, Pending, access_to, Account, said}
use Rattle.demands.specs.Promises.{LastWrite, ReadRight, IsWrite, WriteRight}
use Rattle.demands.proofs.Did.{Finished, did_ended, did_after}

-- a step answered 34 or 35 ends an access that the log says is open: 34 a read, 35 a write
access_finished : (l : List Step) (t : Step) → 34 ≤ number (act (after l) t).answer
    → Finished (Unit {0}) (said (log l)) t (act (after l) t).answer
access_finished l t n = (did_ended (did_after l t) n).right

last_write : (g : Account) (m : ℕ) (x : Access) (v : ℕ) → is_write x ≡ false → v ≡ g.last_written m (word_of x) → LastWrite g (access_to m x) v
last_write g m (Read h w) v r e = e
last_write g m (Write h w y) v r e = clash true refl r

pub read_right : (l : List Step) (t : Step) → ReadRight (line t (act (after l) t).answer) (log l)
read_right l t e =
    let F = access_finished l t (omega arith) in
    subst (λ (p : Pending). LastWrite (said (log l)) p (value (act (after l) t).answer)) (sym F.pending)
    (last_write (said (log l)) F.meter F.access (value (act (after l) t).answer) (F.writes ∙ rw e refl) (F.last tt e))

is_write_lem : (m : ℕ) (x : Access) → is_write x ≡ true → IsWrite (access_to m x)
is_write_lem m (Read h w) e = clash false e refl
is_write_lem m (Write h w y) e = tt

pub write_right : (l : List Step) (t : Step) → WriteRight (line t (act (after l) t).answer) (log l)
write_right l t e =
    let F = access_finished l t (omega arith) in
    subst IsWrite (sym F.pending) (is_write_lem F.meter F.access (F.writes ∙ rw e refl))
