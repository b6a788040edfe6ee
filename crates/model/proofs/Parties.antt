-- Whose a step is, and which: "Who 0 is the keeper, 1 to 8 the clients.", and 01's codes. Assumes nothing.
use mathlib.Core.Path.{◌≡◌, refl, ap, ◌∙◌}
use mathlib.Core.Logic.{⊎_elim}
use mathlib.Core.Bool.{Bool, true, false, not}
use mathlib.Core.List.{List}
use Prim.Native.Nat.{ℕ, zero, suc, ◌≤◌, ◌<◌}
use native.Mathlib.Omega.{arith}
use lib.Dec.{eqb, ltb, leb}
use lib.ListN.{length, get_or, get_or-eq_default}
use borrow.Author.Tests.{eqb-true, ltb-true, lt-ltb, le-ltb, leb-true}
use Rattle.model.specs.Choice.{pick, ◌and◌, every, all}
use Rattle.model.specs.Steps.{Name, UNKNOWN}
use Rattle.model.specs.Steps.{NOBODY, keeper_codes, client_codes, named}
use Rattle.model.specs.Table.{code_of}
use Rattle.model.proofs.Choice.{order, clash, by_test, and_parts}
use Rattle.model.proofs.Says.{says_isnt, says_all, all_get, every_at}

abbrev pub of_keeper : Name → Bool
of_keeper n = leb (code_of n) 4

abbrev pub of_client : Name → Bool
of_client n = leb 10 (code_of n) and leb (code_of n) 17

-- a list of names by code: those from low to high stand at their codes, and it has no other
abbrev in_range : ℕ → ℕ → ℕ → ℕ
in_range low high c = pick (leb low c and leb c high) c (code_of UNKNOWN)

abbrev lists_at : List Name → ℕ → ℕ → ℕ → Bool
lists_at l low high c = eqb (code_of (get_or l c UNKNOWN)) (in_range low high c)

listed : (l : List Name) (low high : ℕ) → length l ≡ suc high → every (suc high) (lists_at l low high) ≡ true
    → (c : ℕ) → code_of (get_or l c UNKNOWN) ≡ in_range low high c
listed l low high len e c = ⊎_elim within beyond (order c (suc high))
  where
    within : c < suc high → code_of (get_or l c UNKNOWN) ≡ in_range low high c
    within h = eqb-true _ _ (every_at (lists_at l low high) (suc high) e c h)

    beyond : suc high ≤ c → code_of (get_or l c UNKNOWN) ≡ in_range low high c
    beyond h =
        ap code_of (get_or-eq_default l UNKNOWN (omega arith))
        ∙ by_test (λ (k : ℕ). code_of UNKNOWN ≡ k) (leb low c and leb c high)
        (λ y. absurd (omega (arith, leb-true c high (and_parts (leb low c) (leb c high) y).1))) (λ _. refl)

-- the keeper's codes are 1 to 4, a client's 10 to 17, and each names its step; who above 8 is nobody
pub keeper_code : (c : ℕ) → code_of (named 0 c) ≡ in_range 1 4 c
unfolding every
keeper_code = listed keeper_codes 1 4 refl refl

pub client_code : (client c : ℕ) → client < 8 → code_of (named (suc client) c) ≡ in_range 10 17 c
unfolding every
client_code client c h = rw (lt-ltb client 8 h) (listed client_codes 10 17 refl refl c)

pub nobody_above : (client c : ℕ) → 8 ≤ client → named (suc client) c ≡ NOBODY
nobody_above client c h = rw (le-ltb client 8 h)

-- whose step it is
none_listed : (f : Name → Bool) (l : List Name) → all (λ n. not (f n)) l ≡ true → f UNKNOWN ≡ false → (c : ℕ) → f (get_or l c UNKNOWN) ≡ false
none_listed f l e d c = all_get (λ n. f n ≡ false) l c ((says_all (λ n. not (f n)) _ (λ n. says_isnt (f n)) l).holds e) d

pub not_keepers : (client c : ℕ) → of_keeper (named (suc client) c) ≡ false
not_keepers client c =
    by_test (λ (n : Name). of_keeper n ≡ false) (ltb client 8) (λ _. none_listed of_keeper client_codes refl refl c) (λ _. refl)

pub keeper_who : (who c : ℕ) → of_keeper (named who c) ≡ true → who ≡ 0
keeper_who zero c e = refl
keeper_who (suc client) c e = clash (of_keeper (named (suc client) c)) e (not_keepers client c)

pub client_who : (who c : ℕ) → of_client (named who c) ≡ true → (0 < who) × (who ≤ 8)
client_who zero c e = clash (of_client (named 0 c)) e (none_listed of_client keeper_codes refl refl c)
client_who (suc client) c e =
    by_test (λ (n : Name). of_client n ≡ true → (0 < suc client) × (suc client ≤ 8)) (ltb client 8)
    (λ y _. let b = ltb-true client 8 y in (omega arith, omega arith)) (λ _ z. clash false z refl) e
