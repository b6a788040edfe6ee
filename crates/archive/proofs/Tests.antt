-- The tests before a call, on words, are the model's on the rows that the words mean; a state that passes them is lent as the words of
-- its eight rows.
use mathlib.Core.Path.{◌≡◌, refl, sym, ◌∙◌}
use mathlib.Core.Logic.{⊎_elim}
use mathlib.Core.Bool.{true, not}
use mathlib.Core.List.{List}
use Prim.Native.Nat.{ℕ}
use lib.Dec.{eqb}
use lib.ListN.{length}
use borrow.Author.Tests.{eq-eqb, ne_eqb, eqb-true, not-false}
use Rattle.model.specs.declared.Control.{Control}
use Rattle.model.specs.State.{State}
use Rattle.model.specs.Choice.{given}
use Rattle.model.specs.Rules.{first_broken}
use Rattle.model.specs.Steps.{wrong_size, unsound, call_refusals}
use Rattle.model.proofs.Choice.{and_parts, same_or_not}
use Rattle.model.proofs.Refusals.{none_given}
use Rattle.model.proofs.Readings.{says_r6, sound_of}
use Rattle.table.specs.Words.{table_words, rows_of}
use Rattle.table.proofs.FourHolds.{four_rows_of}
use Rattle.table.proofs.Rows.{length_rows, no_rows, sound_words}
use Rattle.acts.proofs.Acts.{Rows}
use Rattle.archive.specs.Does.{meant, right_sizes}

-- "table not eight rows"
eight_rows : (t : List ℕ) → eqb (length (rows_of t)) 8 ≡ eqb (length t) 96
eight_rows t =
    ⊎_elim (λ (e : length t ≡ 96). eq-eqb (length (rows_of t)) 8 (length_rows t e) ∙ sym (eq-eqb (length t) 96 e))
    (λ (n : length t ≡ 96 → ⊥). rw (no_rows t n, ne_eqb (length t) 96 n))
    (same_or_not (length t) 96)

module _ (c : Control) (a t : List ℕ) where
  pub size_test : wrong_size (meant c a t) ≡ not (right_sizes a t)
  unfolding wrong_size right_sizes
  size_test = rw (eight_rows t)

  pub unsound_test : unsound (meant c a t) ≡ not (eqb (first_broken (meant c a t)) 0)
  unfolding unsound
  unsound_test = refl

pub record Passes (c : Control) (a t : List ℕ) : Type 0 where
  pub rows : Rows (meant c a t)
  pub words : table_words (rows_of t) ≡ t

pub passes : (c : Control) (a t : List ℕ) → given (call_refusals (meant c a t)) ≡ 0 → Passes c a t
unfolding right_sizes unsound
passes c a t e =
    let s : State = meant c a t in
    let neither = none_given (call_refusals s) refl e in
    let sizes : right_sizes a t ≡ true = not-false (right_sizes a t) (sym (size_test c a t) ∙ neither.0) in
    let n : length t ≡ 96 = eqb-true (length t) 96 (and_parts (eqb (length a) 8192) (eqb (length t) 96) sizes).1 in
    let sound : first_broken s ≡ 0 = eqb-true (first_broken s) 0 (not-false (eqb (first_broken s) 0) neither.1.0) in
    record {
      rows = record { eight = length_rows t n; four = four_rows_of t };
      words = sound_words c.dir c.mv a t n ((says_r6 c.dir c.mv a (rows_of t)).test (sound_of s sound).r6);
    }
