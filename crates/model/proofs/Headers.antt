-- A header compared by its flag and its target: "2 × target cell + flag". Assumes nothing.
use mathlib.Core.Path.{◌≡◌}
use mathlib.Core.Bool.{true, false}
use Prim.Native.Nat.{ℕ, ◌+◌, ◌*◌, ◌/◌, ◌%◌}
use native.Mathlib.Omega.{arith}
use lib.Dec.{eqb}
use borrow.Author.Tests.{eqb-true, eqb-false, ne_eqb}
use Rattle.model.specs.Arena.{plain, flagged, target_of, flag_of}
use Rattle.model.proofs.Says.{says_as, says_eq, says_same}

module _ (h c : ℕ) where
  -- the flag is as it should be: the target decides
  pub plain_target : flag_of h ≡ false → eqb (target_of h) c ≡ eqb h (plain c)
  plain_target e =
      let odd = eqb-false (h % 2) 1 e in
      says_same (says_as (λ (p : h / 2 ≡ c). even odd p) (λ (p : h ≡ 2 * c). omega arith) (says_eq (target_of h) c)) (says_eq h (plain c))
    where
      even : (h % 2 ≡ 1 → ⊥) → h / 2 ≡ c → h ≡ 2 * c
      even odd p = omega arith

  pub flagged_target : flag_of h ≡ true → eqb (target_of h) c ≡ eqb h (flagged c)
  flagged_target e =
      let odd : h % 2 ≡ 1 = eqb-true (h % 2) 1 e in
      says_same (says_as (λ (p : h / 2 ≡ c). omega arith) (λ (p : h ≡ 2 * c + 1). omega arith) (says_eq (target_of h) c))
      (says_eq h (flagged c))

  -- it is not: the header is another
  pub not_plain : flag_of h ≡ true → eqb h (plain c) ≡ false
  not_plain e = let odd : h % 2 ≡ 1 = eqb-true (h % 2) 1 e in ne_eqb h (plain c) (λ (p : h ≡ 2 * c). omega arith)

  pub not_flagged : flag_of h ≡ false → eqb h (flagged c) ≡ false
  not_flagged e = ne_eqb h (flagged c) (λ (p : h ≡ 2 * c + 1). eqb-false (h % 2) 1 e (omega arith))
