-- Every step keeps the invariant, fresh has it, and so it holds after every sequence of steps. Assumes nothing.
use mathlib.Core.Path.{◌≡◌, refl, subst⁻¹}
use mathlib.Core.Logic.{◌⊎◌, inl, inr, ⊎_elim}
use mathlib.Core.List.{List, [], ◌∷◌}
use Prim.Native.Nat.{ℕ, zero, suc, pred, ◌<◌}
use native.Mathlib.Omega.{arith}
use lib.Dec.{ltb}
use lib.ListN.{replicate, length}
use borrow.Author.Tests.{ltb-true}
use Rattle.model.specs.Arena.{none, header}
use Rattle.model.specs.Rows.{fresh_row}
use Rattle.model.specs.State.{State, no_move, fresh}
use Rattle.model.specs.Steps.{Step, Name, ADMIT, RETIRE, BEGIN, ADVANCE, ATTACH, DETACH, OPEN, DROP, READ, WRITE, GO, REST, UNKNOWN, NOBODY}
use Rattle.model.specs.Steps.{named, name_of, act}
use Rattle.model.proofs.Choice.{by_test}
use Rattle.model.proofs.CellMap.{fresh_map, fresh_free}
use Rattle.model.proofs.Says.{get_d_fresh}
use Rattle.demands.specs.Log.{Account, new_client, new_account, after, log, said}
use Rattle.demands.proofs.Keeping.{Good, Keeps}
use Rattle.demands.proofs.Inv.{empty, rests, RowOk, Inv}
use Rattle.demands.proofs.Blocks.{still}
use Rattle.demands.proofs.Clients.{attach_inv, detach_inv, open_inv, drop_inv, read_inv, write_inv, rest_inv}
use Rattle.demands.proofs.Finishes.{go_inv}
use Rattle.demands.proofs.Begins.{begin_inv}
use Rattle.demands.proofs.Ends.{advance_inv}
use Rattle.demands.proofs.Admits.{admit_inv}
use Rattle.demands.proofs.Retires.{retire_inv}

-- who is nobody, or has a row
pub seated_or_nobody : (who code : ℕ) → (named who code ≡ NOBODY) ⊎ (pred who < 8)
seated_or_nobody zero code = inr (omega arith)
seated_or_nobody (suc client) code =
    by_test (λ (n : Name). (n ≡ NOBODY) ⊎ (client < 8)) (ltb client 8) (λ e. inr (ltb-true client 8 e)) (λ _. inl refl)

step_inv : {X : Type 0} (n : Name) (s : State) (g : Account) (t : Step) → Inv X s g → pred t.who < 8 → Keeps X n s g t
step_inv ADMIT s g t I seat = admit_inv s g t I
step_inv RETIRE s g t I seat = retire_inv s g t I
step_inv BEGIN s g t I seat = begin_inv s g t I
step_inv ADVANCE s g t I seat = advance_inv s g I t
step_inv ATTACH s g t I seat = attach_inv s g t I seat
step_inv DETACH s g t I seat = detach_inv s g t I seat
step_inv OPEN s g t I seat = open_inv s g t I seat
step_inv DROP s g t I seat = drop_inv s g t I seat
step_inv READ s g t I seat = read_inv s g t I seat
step_inv WRITE s g t I seat = write_inv s g t I seat
step_inv GO s g t I seat = go_inv s g t I seat
step_inv REST s g t I seat = rest_inv s g t I seat
step_inv UNKNOWN s g t I seat = I
step_inv NOBODY s g t I seat = I

pub act_inv : {X : Type 0} (s : State) (g : Account) (t : Step) → Inv X s g → Good X (name_of t) g t (act s t)
unfolding act
act_inv {X} s g t I =
    ⊎_elim (λ (e : name_of t ≡ NOBODY). subst⁻¹ (λ (n : Name). Keeps X n s g t) e I)
    (step_inv (name_of t) s g t I) (seated_or_nobody t.who t.code)

pub fresh_inv : {X : Type 0} → Inv X fresh new_account
fresh_inv {X} = record {
  own = λ x. none;
  core = still refl refl fresh_map (λ m n. absurd (n (get_d_fresh 256 m none))) (λ x _. fresh_free x) (λ x n. absurd (n refl));
  eight = refl;
  rows = λ i. rw (get_d_fresh 8 i fresh_row) row;
  r7 = refl;
  small = omega arith;
}
  where
    row : RowOk X (replicate 256 none) no_move (λ m. 0) (header (replicate 8192 0) 0) 0 fresh_row new_client
    row = record {
      four = refl;
      holds = λ i. empty (get_d_fresh 4 i none);
      detached = λ _. record { passed = refl; empty = λ i. get_d_fresh 4 i none; rests = refl };
      passed = λ l. absurd l;
      le = omega arith;
      lt = λ f. absurd f.0;
      phase = rests refl;
    }

pub always : {X : Type 0} (l : List Step) → Inv X (after l) (said (log l))
always [] = fresh_inv
always (t ∷ l) = act_inv (after l) (said (log l)) t (always l)

pub eight_after : (l : List Step) → length (after l).table ≡ 8
eight_after l = (always {X = ⊥} l).eight
