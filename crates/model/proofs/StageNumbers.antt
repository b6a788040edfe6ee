-- The stages of a move by number, as code tests them; an early stage is not late. Assumes nothing.
use mathlib.Core.Path.{◌≡◌, refl, ap}
use mathlib.Core.Bool.{true, false}
use Prim.Native.Nat.{ℕ, zero, suc, ◌≤◌}
use native.Mathlib.Omega.{arith}
use lib.Dec.{eqb, ltb}
use borrow.Author.Tests.{le-ltb, ne_eqb}
use Rattle.model.specs.declared.Stage.{Stage}
use Rattle.model.specs.declared.Stage.TheVariants.{NoMove, FirstBarrier, Copying, SecondBarrier, ThirdBarrier}
use Rattle.model.specs.State.{stage_of, in_hand}
use Rattle.model.specs.Rules.{early, late}
use Rattle.model.proofs.Choice.{clash}

pub early_not_late : (g : Stage) → early g ≡ true → late g ≡ false
early_not_late NoMove e = refl
early_not_late FirstBarrier e = refl
early_not_late Copying e = refl
early_not_late SecondBarrier e = refl
early_not_late ThirdBarrier e = clash false e refl

pub early_number : (n : ℕ) → (n ≡ 0 → ⊥) → ltb n 4 ≡ early (stage_of n)
early_number zero h = absurd (h refl)
early_number (suc zero) h = refl
early_number (suc (suc zero)) h = refl
early_number (suc (suc (suc zero))) h = refl
early_number (suc (suc (suc (suc zero)))) h = refl
early_number (suc (suc (suc (suc (suc n))))) h = le-ltb (suc (suc (suc (suc (suc n))))) 4 (omega arith)

pub late_number : (n : ℕ) → eqb n 4 ≡ late (stage_of n)
late_number zero = refl
late_number (suc zero) = refl
late_number (suc (suc zero)) = refl
late_number (suc (suc (suc zero))) = refl
late_number (suc (suc (suc (suc zero)))) = refl
late_number (suc (suc (suc (suc (suc n))))) = ne_eqb (suc (suc (suc (suc (suc n))))) 4 (λ e. omega arith)

pub stage_none : (n : ℕ) → (n ≡ 1 → ⊥) → (n ≡ 2 → ⊥) → (n ≡ 3 → ⊥) → (n ≡ 4 → ⊥) → stage_of n ≡ NoMove
stage_none zero a b c d = refl
stage_none (suc zero) a b c d = absurd (a refl)
stage_none (suc (suc zero)) a b c d = absurd (b refl)
stage_none (suc (suc (suc zero))) a b c d = absurd (c refl)
stage_none (suc (suc (suc (suc zero)))) a b c d = absurd (d refl)
stage_none (suc (suc (suc (suc (suc n))))) a b c d = refl

pub in_hand_lem : (n : ℕ) → 1 ≤ n → n ≤ 4 → in_hand (stage_of n) ≡ true
in_hand_lem zero p q = absurd (omega arith)
in_hand_lem (suc zero) p q = refl
in_hand_lem (suc (suc zero)) p q = refl
in_hand_lem (suc (suc (suc zero))) p q = refl
in_hand_lem (suc (suc (suc (suc zero)))) p q = refl
in_hand_lem (suc (suc (suc (suc (suc n))))) p q = absurd (omega arith)

pub out_of_hand : (n : ℕ) → (n ≡ 1 → ⊥) → (n ≡ 2 → ⊥) → (n ≡ 3 → ⊥) → (n ≡ 4 → ⊥) → in_hand (stage_of n) ≡ false
out_of_hand n a b c d = ap in_hand (stage_none n a b c d)
