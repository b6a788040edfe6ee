-- Facts about a record's length, proved once over its kind. Assumes nothing.
use mathlib.Core.Path.{◌≡◌, refl}
use mathlib.Core.Logic.{⊎_elim}
use Prim.Native.Nat.{ℕ, zero, suc, ◌+◌, ◌*◌, ◌≤◌, ◌<◌}
use native.Mathlib.Omega.{arith}
use Rattle.model.specs.Arena.{kind_table, of_kind, cells, words, payload}
use Rattle.model.proofs.Choice.{order}

-- the lengths of a record that exists
pub record Real (k : ℕ) : Type 0 where
  pub some : 0 < cells k
  pub cells_le : cells k ≤ 8
  pub words_eight : words k ≡ 8 * cells k
  pub payload_less : payload k + 2 ≡ words k

pub by_kind : (k : ℕ) → k < 4 → Real k
unfolding of_kind kind_table
by_kind zero h = record { some = omega arith; cells_le = omega arith; words_eight = refl; payload_less = refl }
by_kind (suc zero) h = record { some = omega arith; cells_le = omega arith; words_eight = refl; payload_less = refl }
by_kind (suc (suc zero)) h = record { some = omega arith; cells_le = omega arith; words_eight = refl; payload_less = refl }
by_kind (suc (suc (suc zero))) h = record { some = omega arith; cells_le = omega arith; words_eight = refl; payload_less = refl }
by_kind (suc (suc (suc (suc k)))) h = absurd (omega arith)

-- a kind above 3 has no cells
no_kind : (k : ℕ) → 4 ≤ k → cells k ≡ 0
unfolding of_kind kind_table
no_kind zero h = absurd (omega arith)
no_kind (suc zero) h = absurd (omega arith)
no_kind (suc (suc zero)) h = absurd (omega arith)
no_kind (suc (suc (suc zero))) h = absurd (omega arith)
no_kind (suc (suc (suc (suc k)))) h = refl

-- a run of a record's cells is shorter than a word of the map
pub cells_short : (k : ℕ) → cells k < 64
cells_short k = ⊎_elim (λ h. omega (arith, (by_kind k h).cells_le)) (λ h. omega (arith, no_kind k h)) (order k 4)
