-- An archive that was reached by steps from fresh: it means the state that they reach, from fresh on, and after each step of the library.
-- Assumes nothing.
use mathlib.Core.Path.{◌≡◌, refl, sym, ap, ◌∙◌}
use mathlib.Core.Bool.{true, false}
use mathlib.Core.Logic.{⊎_elim}
use mathlib.Core.List.{List, [], ◌∷◌, append-nil}
use Prim.Native.Nat.{ℕ, ◌<◌}
use native.Mathlib.Omega.{arith}
use borrow.Author.Tests.{le-leb, lt-leb}
use lib.ListN.{length}
use Rattle.model.specs.declared.Control.{Control}
use Rattle.model.specs.declared.Answer.TheVariants.{Done}
use Rattle.model.specs.Choice.{total}
use Rattle.model.specs.Rows.{swaps_of}
use Rattle.model.specs.State.{State, fresh, Outcome, outcome, number, value, number_of01, Answered}
use Rattle.model.specs.Steps.{act, step_call, wrong_size, fresh_call}
use Rattle.model.proofs.Choice.{clash, order}
use Rattle.model.proofs.Answered.{answered}
use Rattle.model.proofs.Calls.{fresh_succeeds}
use Rattle.demands.specs.Log.{after}
use Rattle.demands.proofs.Kept.{after_sizes}
use Rattle.demands.proofs.Runs.{step_after}
use Rattle.table.specs.Words.{table_words, rows_read}
use Rattle.table.proofs.FourHolds.{four_of_all}
use Rattle.table.proofs.Rows.{rows_of_words, rows_read_lem, length_rows}
use Rattle.turns.specs.declared.Numbers.{Numbers}
use Rattle.archive.specs.declared.Reply.{Reply}
use Rattle.archive.specs.Does.{meant, words_after, CallDoes}
use Rattle.archive.proofs.Calls.{words_kept}
use Rattle.script.specs.declared.printing.Page.{Page}
use Rattle.script.specs.Printing.{line2}
use Rattle.script.specs.Pages.{Writes}
use Rattle.script.specs.Replay.{all_swaps, answer_lines}
use Rattle.script.specs.Sizes.{none, more}
use Rattle.play.specs.Plays.{step_of, one_step, Reached, Plays}

-- A fresh archive, on memory of the right sizes
right_words : (c : Control) (a t : List ℕ) → length a ≡ 8192 → length t ≡ 96 → wrong_size (meant c a t) ≡ false
unfolding wrong_size
right_words c a t ea et = rw (ea, length_rows t et) refl

pub fresh_reached : (c : Control) (a t : List ℕ) {r : Reply} {b u : List ℕ} → length a ≡ 8192 → length t ≡ 96
    → CallDoes t r b u (fresh_call (meant c a t)) → Reached r.control b u
unfolding words_after
fresh_reached c a t {r} {b} {u} ea et D =
    let E : CallDoes t r b u (outcome (Done 0) fresh) = rw (fresh_succeeds (meant c a t) (right_words c a t ea et)) at D in
    record { steps = []; holds = record { control = E.control; arena = E.arena; table = E.table } }

-- what was reached
module _ {c : Control} {a t : List ℕ} (R : Reached c a t) where
  abbrev then : State
  then = after R.steps

  rows_are : rows_read t ≡ then.table
  rows_are = rw R.holds.table (rows_read_lem then.table (after_sizes R.steps).rows (four_of_all (after_sizes R.steps).holds))

  pub reached_is : meant c a t ≡ then
  reached_is =
      rw (
        R.holds.control,
        R.holds.arena,
        R.holds.table,
        rows_of_words then.table (after_sizes R.steps).rows (four_of_all (after_sizes R.steps).holds),
      )

  -- all swaps, read from the words
  pub swaps_are : (s : State) → meant c a t ≡ s → total swaps_of (rows_read t) ≡ all_swaps s.table
  swaps_are s e = ap (total swaps_of) (rows_are ∙ ap (λ (x : State). x.table) (sym reached_is ∙ e))

  -- the library's step is the model's
  module _ (x : Numbers) {r : Reply} {b u : List ℕ} (D : CallDoes t r b u (step_call (meant c a t) (step_of x))) where
    abbrev o : Outcome
    o = act then (step_of x)

    does : CallDoes t r b u o
    does = rw (reached_is, step_after R.steps (step_of x)) at D

    words_are : u ≡ table_words o.next.table
    words_are =
        let A : Answered then o = rw (step_after R.steps (step_of x)) at (answered then (step_of x)) in
        does.table ∙ sym (words_kept t then o A (sym R.holds.table))

    pub step_reached : Reached r.control b u
    step_reached =
        record { steps = step_of x ∷ R.steps; holds = record { control = does.control; arena = does.arena; table = words_are } }

pub fresh_is : (c : Control) (a t : List ℕ) {r : Reply} {b u : List ℕ} → length a ≡ 8192 → length t ≡ 96
    → CallDoes t r b u (fresh_call (meant c a t)) → meant r.control b u ≡ fresh
unfolding fresh_reached
fresh_is c a t ea et D = reached_is (fresh_reached c a t ea et D)

-- 01's numbers have two digits
tabled_small : (n : ℕ) → number_of01 n ≡ true → n < 100
tabled_small n t =
    ⊎_elim (λ h. h)
    (λ h. clash (number_of01 n) t (simp (
      le-leb 1 n (omega arith),
      le-leb 20 n (omega arith),
      le-leb 30 n (omega arith),
      lt-leb n 15 (omega arith),
      lt-leb n 27 (omega arith),
      lt-leb n 35 (omega arith),
    )))
    (order n 100)

-- A step's line
one_line : (n v : ℕ) → answer_lines (n ∷ v ∷ []) ≡ line2 n v
unfolding answer_lines
one_line n v = append-nil (line2 n v)

pub step_plays : {c : Control} {a t : List ℕ} (R : Reached c a t) (s : State) (x : Numbers) {r : Reply} {b u : List ℕ} {p q : Page}
    → meant c a t ≡ s → CallDoes t r b u (step_call (meant c a t) (step_of x))
    → Writes p q (line2 (number r.answer) (value r.answer)) → value r.answer < 4294967296
    → Plays s (meant r.control b u) p q [] (one_step s x)
unfolding step_reached
step_plays {c} {a} {t} R s x {r} {b} {u} {p} {q} e D w h =
    let z : after R.steps ≡ s = sym (reached_is R) ∙ e in
    let o : Outcome = act s (step_of x) in
    let A : Answered s o = rw (step_after R.steps (step_of x), z) at (answered (after R.steps) (step_of x)) in
    let k : r.answer ≡ o.answer = (does R x D).answer ∙ ap (λ (y : State). (act y (step_of x)).answer) z in
    record {
      next = reached_is (step_reached R x D) ∙ ap (λ (y : State). (act y (step_of x)).next) z;
      prints = rw (one_line (number o.answer) (value o.answer), ← k) w;
      short = more (tabled_small (number o.answer) A.tabled) (rw k at h) none;
    }
