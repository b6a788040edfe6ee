-- What the exported calls give: the result, every byte of the buffer and, by a run, of the slots. include/tangvrak.h declares them.
use Rattle.std.specs.Prelude.{Bool, true, not, List, [], ◌∷◌, ◌≡◌, ℕ, ◌+◌, ◌*◌, ◌/◌, ◌%◌, ◌^◌, ◌≤◌, eqb, leb, length}
use Rattle.std.specs.Borrow.{Bor, MutBor}
use Rattle.model.specs.declared.Control.{Control}
use Rattle.model.specs.declared.Answer.{Answer}
use Rattle.model.specs.declared.Answer.TheVariants.{Refused}
use Rattle.model.specs.Choice.{pick, ◌and◌, ◌if◌, refuse}
use Rattle.model.specs.State.{State, Outcome, number, value}
use Rattle.model.specs.Steps.{Step, refused, fresh_call, step_call, fill_call, audit_call, run_call, Ran, ran}
use Rattle.wire.specs.Bytes.{numbers, all_bytes}
use Rattle.archive.specs.declared.Reply.{Reply}
use Rattle.archive.specs.Does.{meant, is_refused, CallDoes, LookDoes}
use Rattle.buffer.specs.Buffer.{buffer_size, state_in, bytes_of}

-- answer and value in one number
unfoldable pub coded : Answer → ℕ
coded x = number x * 2 ^ 32 + value x

-- "A wrong size gets 1."
unfoldable pub wrong_buffer : List ℕ → Bool
wrong_buffer b = not (eqb (length b) buffer_size)

pub record Called : Type 0 where
  pub result : ℕ
  pub bytes : List ℕ

-- a refused call writes no byte
unfoldable pub kept : Answer → List ℕ → List ℕ → List ℕ
kept x before after = pick (is_refused x) before after

abbrev pub called : List ℕ → Outcome → Called
called b o = record { result = coded o.answer; bytes = kept o.answer b (bytes_of o.next) }

-- a call on what the bytes mean
unfoldable pub exported : List ℕ → (State → Outcome) → Called
exported b call = called b (refuse (1 if wrong_buffer b ∷ []) (refused (state_in b)) (call (state_in b)))

abbrev pub fresh_bytes : List ℕ → Called
fresh_bytes b = exported b fresh_call

abbrev pub step_bytes : List ℕ → Step → Called
step_bytes b t = exported b (λ s. step_call s t)

-- fill and audit are lent the buffer to read alone
abbrev pub fill_result : List ℕ → ℕ
fill_result b = (exported b fill_call).result

abbrev pub audit_result : List ℕ → ℕ
audit_result b = (exported b audit_call).result

-- the run: 20 bytes a step, with a slot of 8 bytes for each; "any other sizes are refused by 1"
unfoldable pub run_bytes_fit : ℕ → ℕ → Bool
run_bytes_fit steps slots = leb steps 81920 and eqb (steps % 20) 0 and eqb slots (8 * (steps / 20))

-- n steps, as the sizes have it
pub record RunFit (steps slots n : ℕ) : Type 0 where
  pub fits : run_bytes_fit steps slots ≡ true
  pub most : n ≤ 4096
  pub words : steps ≡ 20 * n
  pub answers : slots ≡ 8 * n

-- the run on the first n words of the steps and the first m of the slots
abbrev pub run_on : List ℕ → List ℕ → List ℕ → ℕ → ℕ → Ran
run_on b steps slots n m = run_call (state_in b) (numbers 4 n steps 0) (numbers 4 m slots 0)

pub record RanBytes : Type 0 where
  pub result : ℕ
  pub bytes : List ℕ
  pub slots : List ℕ

abbrev pub ran_bytes : List ℕ → List ℕ → Ran → RanBytes
ran_bytes b slots o =
    record {
      result = coded o.answer;
      bytes = kept o.answer b (bytes_of o.next);
      slots = kept o.answer slots (all_bytes 4 o.slots);
    }

unfoldable pub run_bytes : List ℕ → List ℕ → List ℕ → RanBytes
run_bytes b steps slots =
    ran_bytes b slots
    (refuse (1 if wrong_buffer b ∷ 1 if not (run_bytes_fit (length steps) (length slots)) ∷ [])
    (λ n. ran (Refused n) [] (state_in b))
    (run_on b steps slots (length steps / 4) (length slots / 4)))

-- What the functions do

-- an archive's function does what the model's call does: with what `post` says of its result and of what it leaves of arena and table,
-- or of its result alone where these are lent to read
abbrev pub Writes : (Control → MutBor (List ℕ) → MutBor (List ℕ) → Reply → MutBor (List ℕ) → MutBor (List ℕ) → Type 0) → (State → Outcome) → Type 0
Writes post does =
    (c : Control) (a t : MutBor (List ℕ)) (r : Reply) (b u : MutBor (List ℕ)) → post c a t r b u
    → CallDoes t.now r b.now u.now (does (meant c a.now t.now))

abbrev pub Looks : (Control → Bor (List ℕ) → Bor (List ℕ) → Reply → Type 0) → (State → Outcome) → Type 0
Looks post does = (c : Control) (a t : Bor (List ℕ)) (r : Reply) → post c a t r → LookDoes r (does (meant c a.now t.now))

pub record Finishes (r : ℕ) (b before : List ℕ) (x : Answer) (after : List ℕ) : Type 0 where
  pub result : r ≡ coded x
  pub bytes : b ≡ kept x before after

pub record CallGives (r : ℕ) (b : List ℕ) (o : Called) : Type 0 where
  pub result : r ≡ o.result
  pub bytes : b ≡ o.bytes

pub record RunGives (r : ℕ) (b s : List ℕ) (o : RanBytes) : Type 0 where
  pub result : r ≡ o.result
  pub bytes : b ≡ o.bytes
  pub slots : s ≡ o.slots
