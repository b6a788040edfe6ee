-- "Two outcomes allowed by a contract are proved equal": a call's contract allows one reply and one memory.
use mathlib.Core.Path.{◌≡◌, sym, ap₂, ◌∙◌}
use mathlib.Core.List.{List}
use Prim.Native.Nat.{ℕ}
use Rattle.model.specs.declared.Answer.{Answer}
use Rattle.model.specs.declared.Control.{Control}
use Rattle.model.specs.State.{Outcome}
use Rattle.model.specs.Steps.{Ran}
use Rattle.archive.specs.declared.Reply.{Reply}
use Rattle.archive.specs.Does.{CallDoes, RunDoes, LookDoes}
use Rattle.archive.proofs.Calls.{reply}

same_reply : {r q : Reply} {x : Answer} {c : Control} → r.answer ≡ x → q.answer ≡ x → r.control ≡ c → q.control ≡ c → r ≡ q
same_reply e f g h = ap₂ reply (g ∙ sym h) (e ∙ sym f)

-- fresh and step; the run; fill and audit
pub one_call : {before : List ℕ} {r q : Reply} {a b t u : List ℕ} {o : Outcome} → CallDoes before r a t o → CallDoes before q b u o
    → (r ≡ q) × (a ≡ b) × (t ≡ u)
one_call d e =
    (same_reply d.answer e.answer d.control e.control, d.arena ∙ sym e.arena, d.table ∙ sym e.table)

pub one_run : {before : List ℕ} {r q : Reply} {a b t u s v : List ℕ} {o : Ran} → RunDoes before r a t s o → RunDoes before q b u v o
    → (r ≡ q) × (a ≡ b) × (t ≡ u) × (s ≡ v)
one_run d e = (
  same_reply d.answer e.answer d.control e.control,
  d.arena ∙ sym e.arena,
  d.table ∙ sym e.table,
  d.slots ∙ sym e.slots,
)

pub one_look : {r q : Reply} {o : Outcome} → LookDoes r o → LookDoes q o → r ≡ q
one_look d e = same_reply d.answer e.answer d.control e.control
