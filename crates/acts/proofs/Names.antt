-- What the code's match over who and code picks is the step by its name. Assumes nothing.
use mathlib.Core.Path.{◌≡◌, refl}
use mathlib.Core.Bool.{true, false}
use Prim.Native.Nat.{ℕ, zero, suc, ◌-◌, ◌≤◌, ◌<◌}
use native.Mathlib.Omega.{arith}
use lib.ListN.{get_or}
use borrow.Author.Tests.{lt-ltb, le-ltb}
use Rattle.model.specs.declared.Answer.TheVariants.{Refused}
use Rattle.model.specs.Steps.{Step, UNKNOWN, keeper_codes}
use Rattle.acts.specs.Acts.{Lent, turn, keeper_turn, passed_all, by_move, move_turn}
use Rattle.acts.specs.Acts.{client_turn_at, party_turn, turn_on}

-- codes that the keeper does not have
pub unknown_keeper : (code : ℕ) → (code ≡ 1 → ⊥) → (code ≡ 2 → ⊥) → (code ≡ 3 → ⊥) → (code ≡ 4 → ⊥)
    → get_or keeper_codes code UNKNOWN ≡ UNKNOWN
unknown_keeper zero a b c d = refl
unknown_keeper (suc zero) a b c d = absurd (a refl)
unknown_keeper (suc (suc zero)) a b c d = absurd (b refl)
unknown_keeper (suc (suc (suc zero))) a b c d = absurd (c refl)
unknown_keeper (suc (suc (suc (suc zero)))) a b c d = absurd (d refl)
unknown_keeper (suc (suc (suc (suc (suc code))))) a b c d = refl

-- who takes the turn
pub turn_by_move : (l : Lent) (t : Step) → t.who ≡ 0 → by_move t.code l.control.mv (passed_all l) ≡ true → turn_on l t ≡ move_turn l
unfolding turn_on
turn_by_move l t e f = rw (e, f)

pub turn_by_keeper : (l : Lent) (t : Step) → t.who ≡ 0 → by_move t.code l.control.mv (passed_all l) ≡ false
    → turn_on l t ≡ keeper_turn (get_or keeper_codes t.code UNKNOWN) l t.a t.b
unfolding turn_on
turn_by_keeper l t e f = rw (e, f)

client_turn_lem : (who : ℕ) (l : Lent) (t : Step) → t.who ≡ who → (who ≡ 0 → ⊥) → who < 9 → party_turn who l t ≡ client_turn_at l (t.who - 1) t
client_turn_lem zero l t e n h = absurd (n refl)
client_turn_lem (suc i) l t e n h = let f : t.who - 1 ≡ i = omega arith in rw (lt-ltb i 8 (omega arith), f)

pub turn_by_client : (l : Lent) (t : Step) → (t.who ≡ 0 → ⊥) → t.who < 9 → turn_on l t ≡ client_turn_at l (t.who - 1) t
unfolding turn_on
turn_by_client l t n h = client_turn_lem t.who l t refl n h

nobody_turn : (who : ℕ) (l : Lent) (t : Step) → 9 ≤ who → party_turn who l t ≡ turn (Refused 3) l
nobody_turn zero l t h = absurd (omega arith)
nobody_turn (suc i) l t h = rw (le-ltb i 8 (omega arith))

pub turn_by_nobody : (l : Lent) (t : Step) → 9 ≤ t.who → turn_on l t ≡ turn (Refused 3) l
unfolding turn_on
turn_by_nobody l t h = nobody_turn t.who l t h
