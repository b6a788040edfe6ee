-- After R1 a present record is found by its label: an entry that is this cell is the entry of the meter that the label names.
-- Assumes nothing.
use mathlib.Core.Path.{◌≡◌, sym, ap, ◌∙◌}
use mathlib.Core.Bool.{true}
use mathlib.Core.List.{List}
use mathlib.Core.Logic.{⊎_elim}
use Prim.Native.Nat.{ℕ, ◌<◌}
use native.Mathlib.Omega.{arith}
use lib.Dec.{eqb}
use lib.ListN.{length, get_or-eq_default}
use Rattle.model.specs.Choice.{any}
use Rattle.model.specs.Arena.{none, label, meter_of}
use Rattle.model.specs.State.{entry}
use Rattle.model.specs.Rules.{R1}
use Rattle.model.proofs.Choice.{order}
use Rattle.model.proofs.Says.{says_as, says_eq, says_any, says_same, Somewhere}
use Rattle.model.proofs.Readings.{says_r1}

pub present_by_label : (dir arena : List ℕ) (c : ℕ) → length dir ≡ 256 → R1 dir arena ≡ true → (c ≡ none → ⊥)
    → eqb (entry dir (meter_of (label arena c))) c ≡ any (eqb c) dir
present_by_label dir arena c l r ne =
    says_same (says_as to from (says_eq (entry dir m) c)) (says_any (eqb c) (λ x. x ≡ c) (λ x. says_as sym sym (says_eq c x)) none dir)
  where
    m : ℕ
    m = meter_of (label arena c)

    low : entry dir m ≡ c → m < length dir
    low e = ⊎_elim (λ h. h) (λ h. absurd (ne (sym e ∙ get_or-eq_default dir none h))) (order m (length dir))

    to : entry dir m ≡ c → Somewhere (λ x. x ≡ c) none dir
    to e = record { at = m; low = low e; holds = e }

    from : Somewhere (λ x. x ≡ c) none dir → entry dir m ≡ c
    from k =
        let e : entry dir k.at ≡ c = k.holds in
        let w = (says_r1 dir arena).holds r k.at (omega (arith, k.low)) (λ z. ne (sym e ∙ z)) in
        ap (λ (x : ℕ). entry dir (meter_of (label arena x))) (sym e) ∙ ap (entry dir) w.meter ∙ e
