-- No count wraps on a sound state: each rises by one, or stays. Assumes nothing.
use mathlib.Core.Path.{◌≡◌}
use Prim.Native.Nat.{ℕ, pred, ◌≤◌}
use native.Mathlib.Omega.{arith}
use lib.ListN.{length, get_or}
use Rattle.model.specs.declared.Answer.{Answer}
use Rattle.model.specs.declared.Row.{Row}
use Rattle.model.specs.Rows.{fresh_row}
use Rattle.model.specs.State.{State, Outcome}
use Rattle.model.specs.Steps.{Step}
use Rattle.model.proofs.Readings.{sound_of}
use Rattle.demands.specs.Promises.{NoneFalls, NoCountWraps}
use Rattle.demands.proofs.Lists.{set_cases}
use Rattle.demands.proofs.Did.{Did, refuses, stays, keeps, acts, did, same_row}
use Rattle.demands.proofs.Counted.{did_counted}
use Rattle.demands.proofs.SwapCounts.{turn_swaps}
use Rattle.demands.proofs.FromRules.{account_of, inv_of}

-- a row's swaps: only its own GO changes them
no_swaps_fall : {Right : Answer → Type 0} {s : State} {t : Step} {o : Outcome} → length s.table ≡ 8 → Did Right s t o
    → (i : ℕ) → (get_or s.table i fresh_row).swaps ≤ (get_or o.next.table i fresh_row).swaps
no_swaps_fall e (refuses _) i = omega arith
no_swaps_fall e (stays _) i = omega arith
no_swaps_fall e (keeps _ _ _ r _) i = let z = (same_row r i).swaps in omega arith
no_swaps_fall {s = s} {t = t} e (acts {r = r} p q _ _ u) i =
    set_cases (λ j (y : Row). (get_or s.table j fresh_row).swaps ≤ y.swaps) s.table (pred t.who) r fresh_row (omega arith)
    (let w = turn_swaps u in omega arith) (λ j n. omega arith) i

none_falls : {Right : Answer → Type 0} {s : State} {t : Step} {o : Outcome} → length s.table ≡ 8 → Did Right s t o
    → NoneFalls s o.next
none_falls e d =
    let c = did_counted d in
    record { begun = omega (arith, c.0); committed = omega (arith, c.1); aborted = omega (arith, c.2); swaps = no_swaps_fall e d }

pub no_count_wraps : NoCountWraps
no_count_wraps s t Z e = let I = inv_of s Z (sound_of s e) in none_falls I.eight (did s (account_of s) t I)
