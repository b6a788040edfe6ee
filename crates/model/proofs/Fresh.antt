-- "A fresh directory has all 256 meters absent", every word of the arena is zero, and the fresh state is sound: by laws, nothing is
-- computed over 256 entries or 1,024 cells. Assumes nothing.
use mathlib.Core.Path.{◌≡◌, refl, ◌∙◌}
use mathlib.Core.Logic.{◌≢◌}
use mathlib.Core.Bool.{Bool, true, false}
use mathlib.Core.List.{List}
use Prim.Native.Nat.{ℕ, zero, suc, ◌<◌}
use native.Mathlib.Omega.{arith}
use lib.ListN.{get_or, replicate, get_or-replicate}
use Rattle.model.specs.declared.Move.{Move}
use Rattle.model.specs.Choice.{total}
use Rattle.model.specs.Arena.{none}
use Rattle.model.specs.State.{no_move, entry, fresh}
use Rattle.model.specs.Rules.{record_covers, blocks_over, flag_up, first_broken}
use Rattle.model.specs.Rows.{fresh_row}
use Rattle.model.proofs.CellMap.{fresh_free}
use Rattle.model.proofs.Says.{get_d_fresh, all_replicate}
use Rattle.model.proofs.Readings.{Late, RowRight, hold_empty, SwapsAt, says_flag, Sound, sound_test}

-- each of the 256 entries
pub fresh_absent : (m : ℕ) → m < 256 → get_or fresh.control.dir m 0 ≡ none
fresh_absent m h = get_or-replicate 256 m none 0 h

-- and a meter above 255
pub fresh_entry : (m : ℕ) → entry fresh.control.dir m ≡ none
fresh_entry m = get_d_fresh 256 m none

-- "zeroes the arena"
pub fresh_word : (i : ℕ) → get_or fresh.arena i 0 ≡ 0
fresh_word i = get_d_fresh 8192 i 0

-- absent entries cover no cell
absent_cover : (arena : List ℕ) (x n : ℕ) → total (record_covers arena x) (replicate n none) ≡ 0
unfolding record_covers
absent_cover arena x zero = refl
absent_cover arena x (suc n) = let e = absent_cover arena x n in omega arith

fresh_covered : (x : ℕ) → blocks_over fresh.control.dir no_move fresh.arena x ≡ 0
unfolding blocks_over
fresh_covered x = omega (arith, absent_cover fresh.arena x 256)

-- a fresh row keeps R6 in any sound state
pub fresh_row_lem : (dir : List ℕ) (v : Move) (arena : List ℕ) → (Late v → none ≢ v.from) → RowRight dir v arena fresh_row
fresh_row_lem dir v arena f =
    record {
      detached = λ _. record { passed = refl; holds = (refl, (refl, (refl, (refl, tt)))); rests = refl };
      holds = (hold_empty refl, (hold_empty refl, (hold_empty refl, (hold_empty refl, tt))));
      phase = tt;
      passed = λ l _. (f l, (f l, (f l, (f l, tt))));
    }

-- .. and R8
pub fresh_swaps : (flag : Bool) (from begun : ℕ) → (flag ≡ true → 0 < begun) → SwapsAt flag from begun fresh_row
fresh_swaps true from begun h = h refl
fresh_swaps false from begun h = omega arith

fresh_rules : Sound fresh
fresh_rules =
    record {
      r1 = λ m h p. absurd (p (fresh_entry m));
      r2 = record { stage = omega arith; early = λ z. absurd z; late = λ z. absurd z };
      r3 = λ x h. fresh_covered x ∙ omega (arith, fresh_free x);
      r4 = record { entries = λ m h p. absurd (p (fresh_entry m)); old = λ z. absurd z };
      r5 = record { meter = refl; from = refl; target = refl; copied = refl };
      r6 =
          all_replicate (RowRight fresh.control.dir no_move fresh.arena) 8 fresh_row
          (fresh_row_lem fresh.control.dir no_move fresh.arena (λ z. absurd z));
      r7 = refl;
      r8 = all_replicate (SwapsAt (flag_up no_move fresh.arena) 0 0) 8 fresh_row (fresh_swaps (flag_up no_move fresh.arena) 0 0 no_flag);
    }
  where
    no_flag : flag_up no_move fresh.arena ≡ true → 0 < 0
    no_flag e = absurd ((says_flag no_move fresh.arena).holds e).0

pub fresh_sound : first_broken fresh ≡ 0
fresh_sound = sound_test fresh fresh_rules
