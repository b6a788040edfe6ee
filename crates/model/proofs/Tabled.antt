-- A step is refused just as the table of specs/Table says. Then what its lines 12 and 13 say of the map. Assumes nothing.
use mathlib.Core.Path.{◌≡◌, refl}
use mathlib.Core.Logic.{⊎_elim}
use mathlib.Core.List.{List}
use Prim.Native.Nat.{ℕ, ◌≤◌, ◌<◌}
use native.Mathlib.Omega.{arith}
use lib.Dec.{T, eqb, leb}
use Rattle.model.specs.Choice.{refuse}
use Rattle.model.specs.Arena.{lowest_run}
use Rattle.model.specs.State.{State}
use Rattle.model.specs.Steps.{Step, Name, ADMIT, RETIRE, BEGIN, ADVANCE, ATTACH, DETACH, OPEN, DROP, READ, WRITE, GO, REST, UNKNOWN}
use Rattle.model.specs.Steps.{NOBODY, name_of, refusals, effect, refused, act}
use Rattle.model.specs.Table.{table}
use Rattle.model.proofs.Choice.{order}
use Rattle.model.proofs.Says.{Says, says_as, says_eq, says_le}
use Rattle.model.proofs.CellMap.{FreeRun, IsLowest, nowhere, found, lowest_is_lowest}
use Rattle.model.proofs.Refusals.{rising}

module _ (s : State) (t : Step) where
  -- what a step is refused by, or that it is accepted, is what the table says
  pub as_tabled : {A : Type 0} (n : Name) (f : ℕ → A) (o : A) → refuse (refusals n s t) f o ≡ refuse (table s t n) f o
  as_tabled ADMIT f o = refl
  as_tabled RETIRE f o = refl
  as_tabled BEGIN f o = refl
  as_tabled ADVANCE f o = refl
  as_tabled ATTACH f o = refl
  as_tabled DETACH f o = refl
  as_tabled OPEN f o = refl
  as_tabled DROP f o = refl
  as_tabled READ f o = refl
  as_tabled WRITE f o = refl
  as_tabled GO f o = refl
  as_tabled REST f o = refl
  as_tabled UNKNOWN f o = refl
  as_tabled NOBODY f o = refl

  pub act_tabled : act s t ≡ refuse (table s t (name_of t)) (refused s) (effect (name_of t) s t)
  unfolding act
  act_tabled = as_tabled (name_of t) (refused s) (effect (name_of t) s t)

  -- its numbers rise, so the first line that applies is the lowest
  pub table_rises : (n : Name) → T (rising (table s t n))
  table_rises n = tt

-- 12 "no free run of that length exists"
pub says_none_free : (map : List ℕ) (n : ℕ) → 0 < n → Says (eqb (lowest_run map n) 65535) ((d : ℕ) → ¬ FreeRun map n d)
says_none_free map n some = says_as (none_free (lowest_is_lowest map n some)) (is_none (lowest_is_lowest map n some)) (says_eq _ _)
  where
    none_free : {r : ℕ} → IsLowest map n r → r ≡ 65535 → (d : ℕ) → ¬ FreeRun map n d
    none_free (nowhere f) e = f
    none_free (found run f) e = absurd (omega (arith, run.within))

    is_none : {r : ℕ} → IsLowest map n r → ((d : ℕ) → ¬ FreeRun map n d) → r ≡ 65535
    is_none (nowhere f) g = refl
    is_none {r} (found run f) g = absurd (g r run)

-- 13 "no free run of that length starts below the record", which is at cell c
pub says_none_below : (map : List ℕ) (n c : ℕ) → 0 < n → c ≤ 65535
    → Says (leb c (lowest_run map n)) ((d : ℕ) → d < c → ¬ FreeRun map n d)
says_none_below map n c some fits =
    says_as (none_below (lowest_is_lowest map n some)) (at_least (lowest_is_lowest map n some)) (says_le _ _)
  where
    none_below : {r : ℕ} → IsLowest map n r → c ≤ r → (d : ℕ) → d < c → ¬ FreeRun map n d
    none_below (nowhere f) h d p = f d
    none_below (found run f) h d p = f d (omega arith)

    at_least : {r : ℕ} → IsLowest map n r → ((d : ℕ) → d < c → ¬ FreeRun map n d) → c ≤ r
    at_least (nowhere f) g = fits
    at_least {r} (found run f) g = ⊎_elim (λ (p : r < c). absurd (g r p run)) (λ (p : c ≤ r). p) (order r c)
