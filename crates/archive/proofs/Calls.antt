-- Each call, refused or done, is the model's call: refused nothing changes; done, the turns on the table's words are the model's steps.
use mathlib.Core.Path.{◌≡◌, refl, sym, ap, ◌∙◌}
use mathlib.Core.Bool.{Bool, true, false, not}
use mathlib.Core.List.{List, [], ◌∷◌}
use Prim.Native.Nat.{ℕ, ◌/◌, ◌≤◌, ◌<◌}
use native.Mathlib.Omega.{arith}
use Rattle.std.specs.Prelude.{Result, Ok, Err}
use lib.Dec.{eqb, ltb}
use lib.ListN.{length, replicate}
use borrow.Author.Tests.{eqb-true, ltb-true, lt-ltb, not-false}
use Rattle.model.specs.declared.Answer.{Answer}
use Rattle.model.specs.declared.Answer.TheVariants.{Refused, Done}
use Rattle.model.specs.declared.Control.{Control}
use Rattle.model.specs.declared.Move.{Move}
use Rattle.model.specs.declared.Reason.{Reason}
use Rattle.model.specs.declared.Reason.TheVariants.{WrongSizes}
use Rattle.model.specs.declared.Row.{Row}
use Rattle.model.specs.Arena.{fill}
use Rattle.model.specs.State.{State, Outcome, outcome, number, Answered, with_move, no_move, fresh_control, reason_number, refusal}
use Rattle.model.specs.Steps.{Step, step, refused, act, wrong_size, unsound, fresh_call, audit_call, fill_call, step_call, Ran, ran, one_by_one}
use Rattle.model.specs.Steps.{call_refusals, run_refusals, steps_of, run_sizes, run_call}
use Rattle.model.specs.Choice.{pick, given}
use Rattle.model.specs.Rules.{first_broken}
use Rattle.model.proofs.Choice.{by_test, and_parts}
use Rattle.model.proofs.Records.{laid_all}
use Rattle.model.proofs.Refusals.{none_given, refused_by_given, accepted_by_given}
use Rattle.model.proofs.Calls.{RunSizes, says_run_sizes, steps_length, slots_length, ran_done}
use Rattle.model.proofs.Answered.{answered}
use Rattle.answers.specs.Answers.{refused_if}
use Rattle.answers.proofs.Reasons.{reason_positive}
use Rattle.table.specs.Words.{table_words, rows_of, each_row, freshen}
use Rattle.table.proofs.Rows.{fresh_rows}
use Rattle.acts.specs.Acts.{Lent, lent}
use Rattle.acts.proofs.Acts.{lent_of}
use Rattle.turns.specs.Runs.{going, turns_from, RunDoes}
use Rattle.turns.proofs.Runs.{Went, run_steps, run_one}
use Rattle.archive.specs.declared.Reply.{Reply}
use Rattle.archive.specs.Does.{meant, words_after, CallDoes, LookDoes, right_sizes}
use Rattle.archive.specs.Does as does
use Rattle.archive.proofs.Tests.{Passes, passes, size_test}

abbrev pub reply : Control → Answer → Reply
reply c x = record { control = c; answer = x }

-- A refused call
module _ (s : State) (x : Reason) where
  step_refused : (t : Step) → reason_number x ≡ given (call_refusals s) → step_call s t ≡ refused s (reason_number x)
  unfolding step_call
  step_refused t e = rw e (refused_by_given (call_refusals s) (refused s) (act s t) (rw e at (reason_positive x)))

  fill_refused : reason_number x ≡ given (call_refusals s) → fill_call s ≡ refused s (reason_number x)
  unfolding fill_call
  fill_refused e = rw e (refused_by_given (call_refusals s) (refused s) (outcome (Done (fill s.control.map)) s) (rw e at (reason_positive x)))

  run_refused : (ws slots : List ℕ) → reason_number x ≡ given (run_refusals s ws slots) → run_call s ws slots ≡ ran (refusal x) slots s
  unfolding run_call
  run_refused ws slots e =
      rw e (refused_by_given (run_refusals s ws slots) (λ k. ran (Refused k) slots s) (one_by_one act s (steps_of ws)) (rw e at (reason_positive x)))

-- what a refused call leaves: its number is 1 or 2
unsound_small : (s : State) → pick (unsound s) 2 0 ≤ 2
unsound_small s = by_test (λ (n : ℕ). n ≤ 2) (unsound s) (λ _. omega arith) (λ _. omega arith)

refusal_small : (s : State) → given (call_refusals s) ≤ 2
refusal_small s = by_test (λ (n : ℕ). n ≤ 2) (wrong_size s) (λ _. omega arith) (λ _. unsound_small s)

run_small : (s : State) (ws slots : List ℕ) → given (run_refusals s ws slots) ≤ 2
run_small s ws slots =
    by_test (λ (n : ℕ). n ≤ 2) (wrong_size s) (λ _. omega arith)
    (λ _. by_test (λ (n : ℕ). n ≤ 2) (not (run_sizes ws slots)) (λ _. omega arith) (λ _. unsound_small s))

-- what is said of the sizes
sized_right : (b : Bool) (u : Unit {0}) → ◌≡◌ {A = Result (Unit {0}) Reason} (Ok u) (refused_if (not b) WrongSizes) → b ≡ true
sized_right true u e = refl
sized_right false u e = cc

sized_wrong : (b : Bool) (x : Reason) → ◌≡◌ {A = Result (Unit {0}) Reason} (Err x) (refused_if (not b) WrongSizes) → (b ≡ false) × (x ≡ WrongSizes)
sized_wrong true x e = cc
sized_wrong false x e = (refl, cc)

words_refused : (t : List ℕ) (n : ℕ) (rows : List Row) → n < 20 → t ≡ words_after t (Refused n) rows
unfolding words_after
words_refused t n rows h = rw (lt-ltb n 20 h)

-- "all 0 when there is none"
abbrev NoMove : Move → Type 0
NoMove v = (v.stage ≡ 0) × ((v.meter ≡ 0) × ((v.from ≡ 0) × ((v.target ≡ 0) × (v.copied ≡ 0))))

all_zero : (v : Move) → NoMove v → v ≡ no_move
all_zero v h =
    let e : ◌≡◌ {A = Move} (record { stage = v.stage; meter = v.meter; from = v.from; target = v.target; copied = v.copied }) no_move =
    rw (h.0, h.1.0, h.1.1.0, h.1.1.1.0, h.1.1.1.1) in
    e

module _ (c : Control) (a t : List ℕ) where
  pub refused_does : (n : ℕ) → n ≤ 2 → CallDoes t (reply c (Refused n)) a t (refused (meant c a t) n)
  refused_does n h = record { answer = refl; control = refl; arena = refl; table = words_refused t n (rows_of t) (omega arith) }

  pub step_stays : (x : Reason) (T : Step) → reason_number x ≡ given (call_refusals (meant c a t))
      → CallDoes t (reply c (refusal x)) a t (step_call (meant c a t) T)
  step_stays x T e = rw (step_refused (meant c a t) x T e) (refused_does (reason_number x) (rw e (refusal_small (meant c a t))))

  pub run_stays : (x : Reason) (ws slots : List ℕ) → reason_number x ≡ given (run_refusals (meant c a t) ws slots)
      → does.RunDoes t (reply c (refusal x)) a t slots (run_call (meant c a t) ws slots)
  run_stays x ws slots e =
      let h : reason_number x ≤ 2 = rw e (run_small (meant c a t) ws slots) in
      rw (run_refused (meant c a t) x ws slots e)
      (record {
        answer = refl;
        control = refl;
        arena = refl;
        table = words_refused t (reason_number x) (rows_of t) (omega arith);
        slots = refl;
      })

  -- fresh, fill and audit
  pub fresh_stays : (x : Reason) → Err x ≡ refused_if (not (right_sizes a t)) WrongSizes
      → CallDoes t (reply c (refusal x)) a t (fresh_call (meant c a t))
  unfolding fresh_call
  fresh_stays x e =
      let w = sized_wrong (right_sizes a t) x e in
      rw (size_test c a t, w.0, w.1) (refused_does 1 (omega arith))

  pub fresh_goes : (v : Move) {b u : List ℕ} {z : Unit {0}} → Ok z ≡ refused_if (not (right_sizes a t)) WrongSizes → NoMove v
      → b ≡ replicate (length a) 0 → u ≡ each_row freshen t 8 → CallDoes t (reply (with_move fresh_control v) (Done 0)) b u (fresh_call (meant c a t))
  unfolding fresh_call words_after right_sizes
  fresh_goes v {b} {u} {z} e h f g =
      let w : right_sizes a t ≡ true = sized_right (right_sizes a t) z e in
      let p = and_parts (eqb (length a) 8192) (eqb (length t) 96) w in
      rw (size_test c a t, w, all_zero v h)
      (record {
        answer = refl;
        control = refl;
        arena = f ∙ ap (λ (n : ℕ). replicate n 0) (eqb-true (length a) 8192 p.0);
        table = g ∙ fresh_rows t (eqb-true (length t) 96 p.1);
      })

  pub audit_stays : (x : Reason) → Err x ≡ refused_if (not (right_sizes a t)) WrongSizes → LookDoes (reply c (refusal x)) (audit_call (meant c a t))
  unfolding audit_call
  audit_stays x e =
      let w = sized_wrong (right_sizes a t) x e in
      rw (size_test c a t, w.0, w.1) (record { answer = refl; control = refl })

  pub audit_goes : (n : ℕ) {z : Unit {0}} → Ok z ≡ refused_if (not (right_sizes a t)) WrongSizes → n ≡ first_broken (meant c a t)
      → LookDoes (reply c (Done n)) (audit_call (meant c a t))
  unfolding audit_call
  audit_goes n {z} e f = rw (size_test c a t, sized_right (right_sizes a t) z e) (record { answer = ap Done f; control = refl })

  pub fill_stays : (x : Reason) → reason_number x ≡ given (call_refusals (meant c a t)) → LookDoes (reply c (refusal x)) (fill_call (meant c a t))
  fill_stays x e = rw (fill_refused (meant c a t) x e) (record { answer = refl; control = refl })

  pub fill_goes : (n : ℕ) → 0 ≡ given (call_refusals (meant c a t)) → n ≡ fill c.map
      → LookDoes (reply c (Done n)) (fill_call (meant c a t))
  unfolding fill_call
  fill_goes n e f =
      let s : State = meant c a t in
      rw (accepted_by_given (call_refusals s) (refused s) (outcome (Done (fill c.map)) s) refl (sym e))
      (record { answer = ap Done f; control = refl })

-- A step that is not refused by 1 or 2: where it is refused by another number the words are as before
pub words_kept : (t : List ℕ) (s : State) (o : Outcome) → Answered s o → table_words s.table ≡ t
    → table_words o.next.table ≡ words_after t o.answer o.next.table
unfolding words_after
words_kept t s o A e =
    by_test (λ (w : List ℕ). table_words o.next.table ≡ w) (ltb (number o.answer) 20)
    (λ q. ap (λ (z : State). table_words z.table) (A.unchanged (ltb-true (number o.answer) 20 q)).1 ∙ e)
    (λ _. refl)

pub step_goes : (c : Control) (a t slots : List ℕ) (who code x y v : ℕ) {k : Control} {b u w : List ℕ} {r : Answer}
    → 0 ≡ given (call_refusals (meant c a t)) → length slots ≡ 2
    → RunDoes k b u w r (turns_from (who ∷ code ∷ x ∷ y ∷ v ∷ []) 0 4096 (going (lent c a t) slots (Done 0)))
    → CallDoes t (reply k r) b u (step_call (meant c a t) (step who code x y v))
unfolding step_call
step_goes c a t slots who code x y v {k} {b} {u} {w} {r} e l d =
    let s : State = meant c a t in
    let T : Step = step who code x y v in
    let ws : List ℕ = who ∷ code ∷ x ∷ y ∷ v ∷ [] in
    let P : Passes c a t = passes c a t (sym e) in
    let o : step_call s T ≡ act s T = accepted_by_given (call_refusals s) (refused s) (act s T) refl (sym e) in
    let g : RunDoes k b u w r (turns_from ws 0 4096 (going (lent_of s) slots (Done 0))) = rw P.words d in
    let h = rw (run_one ws slots (Done 0) s P.rows refl l) at g in
    let A : Answered s (act s T) = rw o at (answered s T) in
    rw o
    (record {
      answer = h.answer;
      control = h.control;
      arena = h.arena;
      table = h.table ∙ words_kept t s (act s T) A P.words;
    })

-- A run: it answers 30 with 0, and has a slot of two words for each step
words_done : (t : List ℕ) (x : Answer) (rows : List Row) → x ≡ Done 0 → table_words rows ≡ words_after t x rows
unfolding words_after
words_done t x rows e = rw e

pub run_goes : (c : Control) (a t ws slots : List ℕ) {k : Control} {b u w : List ℕ} {r : Answer}
    → 0 ≡ given (run_refusals (meant c a t) ws slots)
    → RunDoes k b u w r (turns_from ws 0 4096 (going (lent c a t) slots (Done 0)))
    → does.RunDoes t (reply k (Done 0)) b u w (run_call (meant c a t) ws slots)
unfolding run_call
run_goes c a t ws slots {k} {b} {u} {w} {r} e d =
    let s : State = meant c a t in
    let R : Ran = one_by_one act s (steps_of ws) in
    let none = none_given (run_refusals s ws slots) refl (sym e) in
    let P : Passes c a t = passes c a t (rw (none.0, none.1.1.0)) in
    let z : RunSizes ws slots = (says_run_sizes ws slots).holds (not-false (run_sizes ws slots) none.1.0) in
    let n : length ws / 5 ≡ z.steps = omega (arith, z.words) in
    let o : run_call s ws slots ≡ R = accepted_by_given (run_refusals s ws slots) (λ n. ran (Refused n) slots s) R refl (sym e) in
    let g : RunDoes k b u w r (turns_from ws 0 4096 (going (lent_of s) slots (Done 0))) = rw P.words d in
    let W : Went slots 0 (turns_from ws 0 4096 (going (lent_of s) slots (Done 0))) R =
    run_steps (length ws / 5) 4096 0 ws slots (Done 0) s P.rows (omega (arith, z.most)) refl (omega (arith, z.words))
    (omega (arith, z.answers)) in
    rw o
    (record {
      answer = sym (ran_done act s (steps_of ws));
      control = g.control ∙ ap (λ (z : Lent). z.control) W.lent;
      arena = g.arena ∙ ap (λ (z : Lent). z.arena) W.lent;
      table =
          g.table ∙ ap (λ (z : Lent). z.table) W.lent ∙ words_done t R.answer R.next.table (ran_done act s (steps_of ws));
      slots =
          g.slots ∙ W.slots
          ∙ laid_all slots R.slots
          (omega (arith, z.answers, slots_length act s (steps_of ws), steps_length ws 0 (length ws / 5)));
    })
