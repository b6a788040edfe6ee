-- Who owns each cell of a state that keeps R3: the block that `Wording` finds for it, the move's other block or the one record that lies
-- over it. Assumes nothing.
use mathlib.Core.Path.{◌≡◌, refl, ◌∙◌}
use mathlib.Core.Logic.{◌≢◌, ⊎_elim}
use mathlib.Core.List.{List}
use Prim.Native.Nat.{ℕ, ◌≤◌, ◌<◌}
use native.Mathlib.Omega.{arith}
use lib.ListN.{length}
use Rattle.model.specs.declared.Move.{Move}
use Rattle.model.specs.Arena.{none, used}
use Rattle.model.specs.State.{entry}
use Rattle.model.proofs.Choice.{order, same_or_not}
use Rattle.model.proofs.CellMap.{used_lt}
use Rattle.model.proofs.Readings.{CellsRight}
use Rattle.model.proofs.Covers.{Over, other_over}
use Rattle.model.proofs.Wording.{InBlock, in_record, in_other, CellInWords, cells_in_words}
use Rattle.demands.proofs.Owners.{other, Mapped, bit_of, owner_bit}

module _ (dir map : List ℕ) (v : Move) (arena : List ℕ) where
  pub data Owner (x : ℕ) : ℕ → Type 0 where
    beyond : 1024 ≤ x → Owner x none
    nobody : x < 1024 → used map x ≢ 1 → Owner x none
    the_other : x < 1024 → other_over v arena x ≡ 1 → Owner x other
    a_record : {m : ℕ} → x < 1024 → m < length dir → Over arena x (entry dir m) → Owner x m

  record Owned (x : ℕ) : Type 0 where
    pub by : ℕ
    pub is : Owner x by

  module _ (r3 : CellsRight dir map v arena) (l : length dir ≡ 256) where
    words : (x : ℕ) → x < 1024 → CellInWords dir v arena x (used map x)
    words = cells_in_words dir map v arena r3

    owned : (x : ℕ) → Owned x
    owned x = ⊎_elim within (λ h. record { by = none; is = beyond h }) (order x 1024)
      where
        block : x < 1024 → InBlock dir v arena x → Owned x
        block h (in_record m p o) = record { by = m; is = a_record h p o }
        block h (in_other e) = record { by = other; is = the_other h e }

        within : x < 1024 → Owned x
        within h =
            ⊎_elim (λ e. block h ((words x h).used_only e)) (λ n. record { by = none; is = nobody h n }) (same_or_not (used map x) 1)

    pub owner : ℕ → ℕ
    owner x = (owned x).by

    pub owner_is : (x : ℕ) → Owner x (owner x)
    unfolding owner
    owner_is x = (owned x).is

    -- it is the only one
    pub owner_record : (x m : ℕ) → x < 1024 → m < length dir → Over arena x (entry dir m) → owner x ≡ m
    owner_record x m h b o = by (owner_is x)
      where
        by : {n : ℕ} → Owner x n → n ≡ m
        by (beyond p) = absurd (omega arith)
        by (nobody _ n) = absurd (n ((words x h).used_all (in_record m b o)))
        by (the_other _ e) = absurd ((words x h).not_both m b o e)
        by {n} (a_record _ p q) = (words x h).one_record n m p b q o

    pub owner_other : (x : ℕ) → x < 1024 → other_over v arena x ≡ 1 → owner x ≡ other
    owner_other x h e = by (owner_is x)
      where
        by : {n : ℕ} → Owner x n → n ≡ other
        by (beyond p) = absurd (omega arith)
        by (nobody _ n) = absurd (n ((words x h).used_all (in_other e)))
        by (the_other _ _) = refl
        by {n} (a_record _ p q) = absurd ((words x h).not_both n p q e)

    pub owner_mapped : Mapped owner map
    owner_mapped x h = by (owner_is x)
      where
        by : {n : ℕ} → Owner x n → used map x ≡ bit_of n
        by (beyond p) = absurd (omega arith)
        by (nobody _ n) = omega (arith, used_lt map x)
        by (the_other _ e) = (words x h).used_all (in_other e)
        by {n} (a_record _ p q) = (words x h).used_all (in_record n p q) ∙ owner_bit n (λ z. omega arith)
