-- What the proofs of the exported calls cite: a wrong size, and what a call on what the bytes mean leaves of them.
use mathlib.Core.Path.{◌≡◌, refl, sym, ap, ◌∙◌}
use mathlib.Core.Bool.{Bool, true, false}
use mathlib.Core.List.{List}
use Prim.Native.Nat.{ℕ, ◌*◌, ◌/◌, ◌≤◌}
use lib.ListN.{length, take}
use lib.Seq.{length-take-le}
use borrow.Author.Tests.{eq-eqb, ne_eqb}
use Rattle.model.specs.declared.Control.{Control}
use Rattle.model.specs.declared.Answer.{Answer}
use Rattle.model.specs.declared.Answer.TheVariants.{Refused}
use Rattle.model.specs.Choice.{pick}
use Rattle.model.specs.State.{State, Outcome}
use Rattle.model.specs.Steps.{Ran}
use Rattle.table.specs.Words.{table_words}
use Rattle.wire.specs.Bytes.{all_bytes}
use Rattle.archive.specs.declared.Reply.{Reply}
use Rattle.archive.specs.Does.{meant, is_refused, words_after, CallDoes, RunDoes}
use Rattle.buffer.specs.Buffer.{Decoded, state_in, bytes_in, bytes_of}
use Rattle.buffer.proofs.RoundTrip.{state_decoded}
use Rattle.headend.specs.Exported.{coded, wrong_buffer, kept, called, exported, run_bytes_fit, run_on, ran_bytes, run_bytes, CallGives}
use Rattle.headend.specs.Exported.{Finishes, RunGives}

module _ (b : List ℕ) (call : State → Outcome) where
  pub wrong_size_lem : (length b ≡ 33820 → ⊥) → CallGives (coded (Refused 1)) b (exported b call)
  unfolding exported wrong_buffer kept
  wrong_size_lem n = rw (ne_eqb (length b) 33820 n) (record { result = refl; bytes = refl })

  right_size : length b ≡ 33820 → exported b call ≡ called b (call (state_in b))
  unfolding exported wrong_buffer
  right_size e = rw (eq-eqb (length b) 33820 e)

  -- fill and audit
  pub look_gives : {r : ℕ} {x : Answer} {c : Control} {arena table : List ℕ} → length b ≡ 33820 → Decoded c arena table b → r ≡ coded x
      → x ≡ (call (meant c arena table)).answer → r ≡ (exported b call).result
  look_gives e d p q = rw (right_size e, ← state_decoded d) (p ∙ ap coded q)

-- a refused call's table does not matter: nothing of it is written
same_bytes : (t : Bool) (b : List ℕ) (c : Control) (a before rows : List ℕ)
    → pick t b (bytes_in c a (pick t before rows)) ≡ pick t b (bytes_in c a rows)
same_bytes true b c a before rows = refl
same_bytes false b c a before rows = refl

module _ (b before : List ℕ) (r : Reply) (a t : List ℕ) where
  pub left_bytes : (x : Answer) (s : State) → r.answer ≡ x → r.control ≡ s.control → a ≡ s.arena → t ≡ words_after before x s.table
      → kept r.answer b (bytes_in r.control a t) ≡ kept x b (bytes_of s)
  unfolding kept words_after bytes_of
  left_bytes x s e f g h = rw (e, f, g, h) (same_bytes (is_refused x) b s.control s.arena before (table_words s.table))

  -- fresh and step
  pub call_gives : (call : State → Outcome) {c : Control} {arena : List ℕ} {n : ℕ} {after : List ℕ} → length b ≡ 33820
      → Decoded c arena before b → CallDoes before r a t (call (meant c arena before))
      → Finishes n after b r.answer (bytes_in r.control a t) → CallGives n after (exported b call)
  call_gives call {c} {arena} e d D F =
      let o = call (meant c arena before) in
      rw (right_size b call e, ← state_decoded d)
      (record {
        result = F.result ∙ ap coded D.answer;
        bytes = F.bytes ∙ left_bytes o.answer o.next D.answer D.control D.arena D.table;
      })

  -- the run
  pub run_gives : (o : Ran) (slots : List ℕ) {n : ℕ} {s after left : List ℕ} → RunDoes before r a t s o
      → Finishes n after b r.answer (bytes_in r.control a t) → left ≡ kept r.answer slots (all_bytes 4 s)
      → RunGives n after left (ran_bytes b slots o)
  run_gives o slots D F e =
      record {
        result = F.result ∙ ap coded D.answer;
        bytes = F.bytes ∙ left_bytes o.answer o.next D.answer D.control D.arena D.table;
        slots = rw (D.answer, D.slots) at e;
      }

module _ (b steps slots : List ℕ) where
  pub run_wrong_buffer : (length b ≡ 33820 → ⊥) → RunGives (coded (Refused 1)) b slots (run_bytes b steps slots)
  unfolding run_bytes wrong_buffer kept
  run_wrong_buffer n = rw (ne_eqb (length b) 33820 n) (record { result = refl; bytes = refl; slots = refl })

  pub run_wrong_sizes : length b ≡ 33820 → run_bytes_fit (length steps) (length slots) ≡ false
      → RunGives (coded (Refused 1)) b slots (run_bytes b steps slots)
  unfolding run_bytes wrong_buffer kept
  run_wrong_sizes e f = rw (eq-eqb (length b) 33820 e, f) (record { result = refl; bytes = refl; slots = refl })

  pub run_right_sizes : length b ≡ 33820 → run_bytes_fit (length steps) (length slots) ≡ true
      → run_bytes b steps slots ≡ ran_bytes b slots (run_on b steps slots (length steps / 4) (length slots / 4))
  unfolding run_bytes wrong_buffer
  run_right_sizes e f = rw (eq-eqb (length b) 33820 e, f)

-- as many words as the bytes hold
pub four_times : (x n : ℕ) (l : List ℕ) → n ≤ length l → x ≡ 4 * n → x ≡ 4 * length (take n l)
four_times x n l h e = e ∙ ap (λ (k : ℕ). 4 * k) (sym (length-take-le n l h))

pub run_through : (b steps slots ws xs : List ℕ) {n : ℕ} {after left : List ℕ} → length b ≡ 33820
    → run_bytes_fit (length steps) (length slots) ≡ true → length ws ≡ length steps / 4 → length xs ≡ length slots / 4
    → RunGives n after left (ran_bytes b slots (run_on b steps slots (length ws) (length xs)))
    → RunGives n after left (run_bytes b steps slots)
run_through b steps slots ws xs e f p q R = rw (run_right_sizes b steps slots e f, ← p, ← q) R
