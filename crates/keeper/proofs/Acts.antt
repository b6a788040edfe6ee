-- What ADMIT, RETIRE and BEGIN leave, put back into the state, is what the model's steps do: answer, control record, arena, marks.
-- Assumes nothing.
use Rattle.std.specs.Prelude.{None}
use mathlib.Core.Path.{◌≡◌, refl, sym, ap₂, ◌∙◌}
use mathlib.Core.Bool.{false}
use mathlib.Core.List.{List}
use Prim.Native.Nat.{ℕ}
use Rattle.model.specs.declared.Control.{Control}
use Rattle.model.specs.Choice.{any, Refusal}
use Rattle.model.specs.Arena.{cells, start, cells_at, new_record, laid, lowest_run}
use Rattle.model.specs.State.{entry, State, state, Outcome, outcome}
use Rattle.model.specs.Refusals.{holds_cell, admit_refusals, begin_refusals, retire_refusals}
use Rattle.model.specs.Steps.{Step, ADMIT, RETIRE, BEGIN, name_of, act}
use Rattle.model.proofs.Refusals.{unless_refused, refuse_map}
use Rattle.mover.specs.declared.Kept.{Kept}
use Rattle.mover.proofs.Acts.{placed, act_named}
use Rattle.keeper.specs.Kept.{refused_kept, retired_kept, retire_step, begun_kept, begin_step, admitted_kept, admit_step, admit_arena}

-- ADMIT: the arena beside the rest
abbrev pub placed_with : State → Kept Control → List ℕ → Outcome
placed_with s o arena = outcome o.answer (state o.next arena s.table)

pub retire_acts : (s : State) (t : Step) → name_of t ≡ RETIRE
    → act s t ≡ placed s (retire_step s.control s.arena (any (holds_cell (entry s.control.dir t.a)) s.table) t.a)
unfolding retire_step
retire_acts s t e =
    act_named s t RETIRE e
    ∙ sym (refuse_map (placed s) (retire_refusals s.control s.table t.a) (refused_kept s.control)
    (retired_kept s.control s.arena t.a (entry s.control.dir t.a)))

pub begin_acts : (s : State) (t : Step) → name_of t ≡ BEGIN → act s t ≡ placed s (begin_step s.control s.arena t.a)
unfolding begin_step
begin_acts s t e =
    let from : ℕ = entry s.control.dir t.a in
    act_named s t BEGIN e
    ∙ sym (refuse_map (placed s) (begin_refusals s.control s.arena t.a) (refused_kept s.control)
    (begun_kept s.control s.arena t.a from (lowest_run s.control.map (cells_at s.arena from))))

pub admit_acts : (s : State) (t : Step) → name_of t ≡ ADMIT
    → act s t ≡ placed_with s (admit_step s.control t.a t.b) (admit_arena s.control s.arena t.a t.b)
unfolding admit_step admit_arena
admit_acts s t e =
    let l : List Refusal = admit_refusals s.control t.a t.b in
    let at : ℕ = lowest_run s.control.map (cells t.b) in
    let no : ℕ → Kept Control × List ℕ = λ n. (refused_kept s.control n, s.arena) in
    let yes : Kept Control × List ℕ = (admitted_kept s.control t.a t.b at, laid s.arena (start at) (new_record at t.a t.b)) in
    act_named s t ADMIT e
    ∙ sym (refuse_map (λ (p : Kept Control × List ℕ). placed_with s p.0 p.1) l no yes)
    ∙ ap₂ (placed_with s) (refuse_map (λ (p : Kept Control × List ℕ). p.0) l no yes) (refuse_map (λ (p : Kept Control × List ℕ). p.1) l no yes)

-- ADMIT lays its record itself: no other word changes, and no mark is cleared
pub admit_still : (c : Control) (meter kind : ℕ)
    → ((admit_step c meter kind).change ≡ None) × ((admit_step c meter kind).clear ≡ false)
unfolding admit_step
admit_still c meter kind =
    unless_refused (λ (o : Kept Control). (o.change ≡ None) × (o.clear ≡ false)) (admit_refusals c meter kind) (refused_kept c)
    (admitted_kept c meter kind (lowest_run c.map (cells kind))) (λ n. (refl, refl)) (λ _. (refl, refl))
