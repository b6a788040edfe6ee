-- What every call has in common: its answer is one of 01's numbers, from 20 on where no line of the table applies, and a refused one
-- changes nothing. Assumes nothing.
use mathlib.Core.Path.{◌≡◌, refl}
use mathlib.Core.Bool.{true, false, not}
use mathlib.Core.List.{List, [], ◌∷◌}
use Prim.Native.Nat.{ℕ, ◌≤◌}
use native.Mathlib.Omega.{arith}
use lib.Dec.{T, eqb, leb, leb→le}
use Rattle.model.specs.declared.Phase.{Phase}
use Rattle.model.specs.declared.Phase.TheVariants.{Resting, Ready, Waiting}
use Rattle.model.specs.declared.Access.{Access}
use Rattle.model.specs.declared.Access.TheVariants.{Read, Write}
use Rattle.model.specs.declared.Stepped.{Stepped}
use Rattle.model.specs.declared.Answer.{Answer}
use Rattle.model.specs.declared.Answer.TheVariants.{Done}
use Rattle.model.specs.Choice.{Refusal, ◌if◌, refuse}
use Rattle.model.specs.Arena.{header, flagged, flag_of, words_at, fill}
use Rattle.model.specs.Rows.{busy, hold, all_passed}
use Rattle.model.specs.declared.Stage.{Stage}
use Rattle.model.specs.declared.Stage.TheVariants.{NoMove, FirstBarrier, Copying, SecondBarrier, ThirdBarrier}
use Rattle.model.specs.State.{stage_of, in_hand, rise, State}
use Rattle.model.specs.State.{Outcome, outcome, number, number_of01, Answered, fresh}
use Rattle.model.specs.ClientSteps.{at_header, swap, go}
use Rattle.model.specs.KeeperSteps.{move_of, barrier, copy_word, settle, advance}
use Rattle.model.specs.Steps.{Step, Name, ADMIT, RETIRE, BEGIN, ADVANCE, ATTACH, DETACH, OPEN, DROP, READ, WRITE, GO, REST, UNKNOWN}
use Rattle.model.specs.Steps.{NOBODY, name_of, own_row, effect, refused, act, wrong_size, call_refusals, fresh_call, audit_call}
use Rattle.model.specs.Steps.{fill_call, step_call}
use Rattle.model.specs.Table.{table}
use Rattle.model.specs.Rules.{first_broken}
use Rattle.model.proofs.Choice.{by_test, clash}
use Rattle.model.proofs.Says.{says_holds}
use Rattle.model.proofs.Refusals.{Passed, numbers, each, by_refusals}
use Rattle.model.proofs.Tabled.{act_tabled}

-- the answer is one of 01's that are no refusals
pub record Accepted (x : Answer) : Type 0 where
  pub tabled : number_of01 (number x) ≡ true
  pub from : 20 ≤ number x

-- what `tt` shows where the number computes
accepted : (x : Answer) → T (number_of01 (number x)) → T (leb 20 (number x)) → Accepted x
accepted x t u = record { tabled = (says_holds (number_of01 (number x))).test t; from = leb→le 20 (number x) u }

as_accepted : (s : State) (o : Outcome) → Accepted o.answer → Answered s o
as_accepted s o a = record { tabled = a.tabled; unchanged = λ h. absurd (omega (arith, a.from)) }

turned_down_lem : (s : State) (n : ℕ) → number_of01 n ≡ true → Answered s (refused s n)
turned_down_lem s n t = record { tabled = t; unchanged = λ _. (refl, refl) }

unless : (s : State) (l : List Refusal) (o : Outcome) → T (numbers number_of01 l) → (Passed l → Answered s o)
    → Answered s (refuse l (refused s) o)
unless s l o u h = by_refusals (Answered s) l (refused s) o (each (λ n. Answered s (refused s n)) number_of01 l (turned_down_lem s) u) h

module _ (s : State) (t : Step) where
  abbrev Ok : Outcome → Type 0
  Ok o = Accepted o.answer

  by_stage : (g : Stage) → not (in_hand g) ≡ false → Ok (advance s g)
  unfolding barrier copy_word settle
  by_stage NoMove n = clash true refl n
  by_stage FirstBarrier n = by_test Ok (all_passed s.table) (λ _. accepted _ tt tt) (λ _. accepted _ tt tt)
  by_stage Copying n =
      by_test Ok (eqb (rise (move_of s).copied) (words_at s.arena (move_of s).from)) (λ _. accepted _ tt tt) (λ _. accepted _ tt tt)
  by_stage SecondBarrier n =
      by_test Ok (all_passed s.table)
      (λ _. by_test Ok (eqb (header s.arena (move_of s).from) (flagged (move_of s).from)) (λ _. accepted _ tt tt)
      (λ _. accepted _ tt tt))
      (λ _. accepted _ tt tt)
  by_stage ThirdBarrier n = by_test Ok (all_passed s.table) (λ _. accepted _ tt tt) (λ _. accepted _ tt tt)

  -- a client's step
  abbrev Sits : Stepped → Type 0
  Sits o = Accepted o.answer

  by_access : (x : Access) (c h : ℕ) → Sits (at_header (own_row s t) x c h)
  unfolding at_header
  by_access x c h = by_test Sits (flag_of h) (λ _. accepted _ tt tt) (λ _. accepted _ tt tt)

  by_phase : (p : Phase) → not (busy p) ≡ false → Sits (go s.arena (own_row s t) p)
  unfolding swap
  by_phase Resting n = clash true refl n
  by_phase (Ready c (Read h w)) n = accepted _ tt tt
  by_phase (Ready c (Write h w v)) n = accepted _ tt tt
  by_phase (Waiting c x) n = by_test Sits (eqb (header s.arena c) (flagged c)) (λ _. accepted _ tt tt) (λ _. accepted _ tt tt)

  -- of the table's lines that were passed, ADVANCE's and GO's 9 and lines 3 and 4 matter
  pub effect_accepted : (n : Name) → Passed (table s t n) → Ok (effect n s t)
  effect_accepted ADMIT p = accepted _ tt tt
  effect_accepted RETIRE p = accepted _ tt tt
  effect_accepted BEGIN p = accepted _ tt tt
  effect_accepted ADVANCE p = by_stage (stage_of (move_of s).stage) p.1.1.1.1.1.1.1.1.1.1.1.0
  effect_accepted ATTACH p = accepted _ tt tt
  effect_accepted DETACH p = accepted _ tt tt
  effect_accepted OPEN p = accepted _ tt tt
  effect_accepted DROP p = accepted _ tt tt
  effect_accepted READ p = by_access (Read t.a t.b) (hold (own_row s t) t.a) (header s.arena (hold (own_row s t) t.a))
  effect_accepted WRITE p =
      by_access (Write t.a t.b t.v) (hold (own_row s t) t.a) (header s.arena (hold (own_row s t) t.a))
  effect_accepted GO p = by_phase (own_row s t).phase p.1.1.1.1.1.1.1.1.1.1.0
  effect_accepted REST p = accepted _ tt tt
  effect_accepted UNKNOWN p = clash true refl p.1.0
  effect_accepted NOBODY p = clash true refl p.0

  act_answered : Answered s (act s t)
  act_answered =
      rw (act_tabled s t)
      (unless s (table s t (name_of t)) (effect (name_of t) s t) tt
      (λ p. as_accepted s (effect (name_of t) s t) (effect_accepted (name_of t) p)))

  -- every step, on memory of any contents
  pub answered : Answered s (step_call s t)
  unfolding step_call
  answered = unless s (call_refusals s) (act s t) tt (λ _. act_answered)

-- and every other call
module _ (s : State) where
  pub fresh_answered : Answered s (fresh_call s)
  unfolding fresh_call
  fresh_answered = unless s (1 if wrong_size s ∷ []) (outcome (Done 0) fresh) tt (λ _. as_accepted s _ (accepted _ tt tt))

  pub fill_answered : Answered s (fill_call s)
  unfolding fill_call
  fill_answered = unless s (call_refusals s) (outcome (Done (fill s.control.map)) s) tt (λ _. as_accepted s _ (accepted _ tt tt))

  pub audit_answered : Answered s (audit_call s)
  unfolding audit_call
  audit_answered = unless s (1 if wrong_size s ∷ []) (outcome (Done (first_broken s)) s) tt (λ _. as_accepted s _ (accepted _ tt tt))
