-- What a client's turn leaves alone in its row: so storing what a step may change is storing the row. Assumes nothing.
use Rattle.std.specs.Prelude.{None}
use mathlib.Core.Path.{◌≡◌, refl, sym, ap, ap₂, ◌∙◌}
use mathlib.Core.List.{List}
use Prim.Native.Nat.{ℕ}
use lib.Dec.{eqb}
use lib.ListN.{get_or, set, length-set, length-map}
use lib.Seq.{set-get_or}
use Rattle.model.specs.declared.Access.{Access}
use Rattle.model.specs.declared.Access.TheVariants.{Read, Write}
use Rattle.model.specs.declared.Phase.{Phase}
use Rattle.model.specs.declared.Phase.TheVariants.{Resting, Ready, Waiting}
use Rattle.model.specs.declared.Answer.{Answer}
use Rattle.model.specs.declared.Answer.TheVariants.{Refused}
use Rattle.model.specs.declared.Row.{Row}
use Rattle.model.specs.declared.Stepped.{Stepped}
use Rattle.model.specs.Arena.{none, header, flagged, flag_of}
use Rattle.model.specs.Rows.{FourHolds, with_phase, with_swaps, fresh_row, hold, hold_of}
use Rattle.model.specs.ClientSteps.{attach, detach, open_hold, drop_hold, at_header, go, swap, rest, forwarded, changed}
use Rattle.model.specs.Choice.{Refusal}
use Rattle.model.specs.Refusals.{attach_refusals, rest_refusals, open_refusals, drop_refusals, go_refusals}
use Rattle.model.specs.Steps.{Name, ADMIT, RETIRE, BEGIN, ADVANCE, ATTACH, DETACH, OPEN, DROP, READ, WRITE, GO, REST, UNKNOWN, NOBODY}
use Rattle.model.proofs.Choice.{by_test}
use Rattle.model.proofs.Refusals.{unless_refused}
use Rattle.clients.specs.Turns.{turn, refused_turn, access_turn, go_turn, client_turn}
use Rattle.table.specs.Words.{table_words}
use Rattle.table.proofs.Rows.{put_row_lem, put_phase_lem, put_swaps_phase}
use Rattle.acts.specs.Acts.{Left, left, stored}

-- what holds of the row as it was, and of the step done
turn_keeps : (P : Stepped → Type 0) (l : List Refusal) (r : Row) (o : Stepped) → ((n : ℕ) → P (refused_turn r n)) → P o → P (turn l r o)
unfolding turn
turn_keeps P l r o f p = unless_refused P l (refused_turn r) o f (λ _. p)

-- no word of the arena changes; of the row the phase alone; the swaps and the phase
abbrev OnlyRow : Stepped → Type 0
OnlyRow o = o.change ≡ None

record OnlyPhase (r : Row) (o : Stepped) : Type 0 where
  row : o.row ≡ with_phase r o.row.phase
  change : o.change ≡ None

record OnlySwap (r : Row) (o : Stepped) : Type 0 where
  row : o.row ≡ with_phase (with_swaps r o.row.swaps) o.row.phase

module _ (a : List ℕ) (r : Row) where
  header_phase : (x : Access) (c h : ℕ) → OnlyPhase r (at_header r x c h)
  unfolding at_header
  header_phase x c h =
      by_test (OnlyPhase r) (flag_of h) (λ _. record { row = refl; change = refl }) (λ _. record { row = refl; change = refl })

  access_phase : (x : Access) → OnlyPhase r (access_turn a r x)
  access_phase x =
      turn_keeps (OnlyPhase r) _ r _ (λ n. record { row = refl; change = refl })
      (header_phase x (hold r (hold_of x)) (header a (hold r (hold_of x))))

  go_phase : (p : Phase) → OnlySwap r (go a r p)
  unfolding swap
  go_phase Resting = record { row = refl }
  go_phase (Ready c (Read h w)) = record { row = refl }
  go_phase (Ready c (Write h w v)) = record { row = refl }
  go_phase (Waiting c x) = by_test (OnlySwap r) (eqb (header a c) (flagged c)) (λ _. record { row = refl }) (λ _. record { row = refl })

  go_swap : OnlySwap r (go_turn a r)
  go_swap = turn_keeps (OnlySwap r) (go_refusals r) r (go a r r.phase) (λ n. record { row = refl }) (go_phase r.phase)

left_is : {a b t u : List ℕ} (x : Answer) → a ≡ b → t ≡ u → left a t x ≡ left b u x
left_is x e f = ap₂ (λ (p q : List ℕ). left p q x) e f

-- on the words of rows each step stores the row that it leaves
module _ (a : List ℕ) (table : List Row) (i : ℕ) where
  abbrev own : Row
  own = get_or table i fresh_row

  abbrev whole : Stepped → Left
  whole o = left (changed a o.change) (table_words (set table i o.row)) o.answer

  row_stored : (o : Stepped) → OnlyRow o → stored ATTACH a (table_words table) i o ≡ whole o
  row_stored o e = left_is o.answer (sym (ap (changed a) e)) (put_row_lem table i o.row)

  phase_stored : (o : Stepped) → OnlyPhase own o → stored READ a (table_words table) i o ≡ whole o
  phase_stored o h =
      left_is o.answer (sym (ap (changed a) h.change))
      (put_phase_lem table i o.row.phase ∙ ap (λ (r : Row). table_words (set table i r)) (sym h.row))

  swap_stored : (o : Stepped) → OnlySwap own o → stored GO a (table_words table) i o ≡ whole o
  swap_stored o h =
      left_is o.answer refl
      (put_swaps_phase table i o.row.swaps o.row.phase ∙ ap (λ (r : Row). table_words (set table i r)) (sym h.row))

  none_stored : left a (table_words table) (Refused 4) ≡ whole (refused_turn own 4)
  none_stored = left_is (Refused 4) refl (ap table_words (sym (set-get_or table i fresh_row)))

  pub client_stored : (n : Name) (e x y v : ℕ)
      → stored n a (table_words table) i (client_turn n a own e x y v) ≡ whole (client_turn n a own e x y v)
  client_stored ATTACH e x y v = row_stored _ (turn_keeps OnlyRow (attach_refusals own) own (attach own) (λ n. refl) refl)
  client_stored DETACH e x y v = row_stored _ (turn_keeps OnlyRow (rest_refusals own) own (detach own) (λ n. refl) refl)
  client_stored OPEN e x y v = row_stored _ (turn_keeps OnlyRow (open_refusals own e x y) own (open_hold own y e) (λ n. refl) refl)
  client_stored DROP e x y v = row_stored _ (turn_keeps OnlyRow (drop_refusals own x) own (drop_hold own x) (λ n. refl) refl)
  client_stored REST e x y v = row_stored _ (turn_keeps OnlyRow (rest_refusals own) own (rest a own) (λ n. refl) refl)
  client_stored READ e x y v = phase_stored _ (access_phase a own (Read x y))
  client_stored WRITE e x y v = phase_stored _ (access_phase a own (Write x y v))
  client_stored GO e x y v = swap_stored _ (go_swap a own)
  client_stored ADMIT e x y v = none_stored
  client_stored RETIRE e x y v = none_stored
  client_stored BEGIN e x y v = none_stored
  client_stored ADVANCE e x y v = none_stored
  client_stored UNKNOWN e x y v = none_stored
  client_stored NOBODY e x y v = none_stored

-- a row keeps its four holds
module _ (a : List ℕ) (r : Row) (f : FourHolds r) where
  abbrev HasFour : Stepped → Type 0
  HasFour o = FourHolds o.row

  kept_four : (l : List Refusal) (o : Stepped) → HasFour o → HasFour (turn l r o)
  kept_four l o h = turn_keeps HasFour l r o (λ n. f) h

  access_four : (x : Access) → HasFour (access_turn a r x)
  unfolding at_header
  access_four x = kept_four _ _ (by_test HasFour (flag_of (header a (hold r (hold_of x)))) (λ _. f) (λ _. f))

  go_four : (p : Phase) → HasFour (go a r p)
  unfolding swap
  go_four Resting = f
  go_four (Ready c (Read h w)) = f
  go_four (Ready c (Write h w v)) = f
  go_four (Waiting c x) = by_test HasFour (eqb (header a c) (flagged c)) (λ _. f) (λ _. f)

  pub client_four : (n : Name) (e x y v : ℕ) → FourHolds (client_turn n a r e x y v).row
  client_four ATTACH e x y v = kept_four (attach_refusals r) (attach r) refl
  client_four DETACH e x y v = kept_four (rest_refusals r) (detach r) refl
  client_four OPEN e x y v = kept_four (open_refusals r e x y) (open_hold r y e) (length-set r.holds y e ∙ f)
  client_four DROP e x y v = kept_four (drop_refusals r x) (drop_hold r x) (length-set r.holds x none ∙ f)
  client_four REST e x y v = kept_four (rest_refusals r) (rest a r) (length-map r.holds (forwarded a) ∙ f)
  client_four READ e x y v = access_four (Read x y)
  client_four WRITE e x y v = access_four (Write x y v)
  client_four GO e x y v = kept_four (go_refusals r) (go a r r.phase) (go_four r.phase)
  client_four ADMIT e x y v = f
  client_four RETIRE e x y v = f
  client_four BEGIN e x y v = f
  client_four ADVANCE e x y v = f
  client_four UNKNOWN e x y v = f
  client_four NOBODY e x y v = f
