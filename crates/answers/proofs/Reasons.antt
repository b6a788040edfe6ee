-- Every reason of refusal has a number above 0, so 0 says that nothing refuses; and no two have the same. Assumes nothing.
use mathlib.Core.Path.{◌≡◌, refl, sym, ap, ◌∙◌}
use mathlib.Core.List.{[], ◌∷◌}
use Prim.Native.Nat.{ℕ}
use lib.ListN.{get_or}
use Rattle.std.specs.Prelude.{Result, Ok, Err}
use Rattle.std.proofs.Common.{◌<◌, arith}
use Rattle.model.specs.declared.Reason.{Reason}
use Rattle.model.specs.declared.Reason.TheVariants.{WrongSizes, Unsound, Nobody, Unknown, TooLarge, Unattached, Already, Busy}
use Rattle.model.specs.declared.Reason.TheVariants.{Idle, Absent, Held, Full, NoneBelow, PastPayload, Spent}
use Rattle.model.specs.State.{reason_number}
use Rattle.answers.specs.Answers.{refused_by}

pub reason_positive : (x : Reason) → 0 < reason_number x
reason_positive WrongSizes = omega arith
reason_positive Unsound = omega arith
reason_positive Nobody = omega arith
reason_positive Unknown = omega arith
reason_positive TooLarge = omega arith
reason_positive Unattached = omega arith
reason_positive Already = omega arith
reason_positive Busy = omega arith
reason_positive Idle = omega arith
reason_positive Absent = omega arith
reason_positive Held = omega arith
reason_positive Full = omega arith
reason_positive NoneBelow = omega arith
reason_positive PastPayload = omega arith
reason_positive Spent = omega arith

-- the reason of a number
reason_at : ℕ → Reason
reason_at n =
    get_or
    (WrongSizes ∷ WrongSizes ∷ Unsound ∷ Nobody ∷ Unknown ∷ TooLarge ∷ Unattached ∷ Already ∷ Busy ∷ Idle ∷ Absent ∷ Held ∷ Full ∷ NoneBelow
    ∷ PastPayload ∷ Spent ∷ []) n WrongSizes

told_back : (x : Reason) → reason_at (reason_number x) ≡ x
unfolding reason_at
told_back WrongSizes = refl
told_back Unsound = refl
told_back Nobody = refl
told_back Unknown = refl
told_back TooLarge = refl
told_back Unattached = refl
told_back Already = refl
told_back Busy = refl
told_back Idle = refl
told_back Absent = refl
told_back Held = refl
told_back Full = refl
told_back NoneBelow = refl
told_back PastPayload = refl
told_back Spent = refl

pub same_reason : (x y : Reason) → reason_number x ≡ reason_number y → x ≡ y
same_reason x y e = sym (told_back x) ∙ ap reason_at e ∙ told_back y

-- Two results of a step are equal where both leave the same and are refused by the same number; `settled` is what a result leaves.
pub one_result : {A : Type 0} (settled : Result A Reason → A) → ((x : A) → settled (Ok x) ≡ x) → (r s : Result A Reason)
    → settled r ≡ settled s → refused_by r ≡ refused_by s → r ≡ s
one_result f k (Ok x) (Ok y) e g = ap Ok (sym (k x) ∙ e ∙ k y)
one_result f k (Ok x) (Err b) e g = absurd (omega (arith, reason_positive b, g))
one_result f k (Err a) (Ok y) e g = absurd (omega (arith, reason_positive a, g))
one_result f k (Err a) (Err b) e g = ap Err (same_reason a b g)
