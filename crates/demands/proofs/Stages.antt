-- The stages of a move as tests, and one law for every fact that relates them: it is computed at each of the five stages.
-- Assumes nothing.
use mathlib.Core.Path.{◌≡◌}
use mathlib.Core.Bool.{Bool, true, false, not}
use mathlib.Core.List.{List, [], ◌∷◌}
use Prim.Native.Nat.{ℕ, zero, suc}
use lib.Dec.{T}
use lib.ListN.{get_or}
use Rattle.model.specs.declared.Move.{Move}
use Rattle.model.specs.Choice.{◌⇒◌, all}
use Rattle.model.specs.declared.Stage.{Stage}
use Rattle.model.specs.declared.Stage.TheVariants.{NoMove, FirstBarrier, Copying, SecondBarrier, ThirdBarrier}
use Rattle.model.specs.State.{stage_of, in_hand}
use Rattle.model.specs.Rules.{early, late}
use Rattle.model.proofs.Choice.{both_hold}
use Rattle.model.proofs.Readings.{Early, Late}

abbrev pub first : Stage → Bool
first NoMove = false
first FirstBarrier = true
first Copying = false
first SecondBarrier = false
first ThirdBarrier = false

abbrev pub never : Stage → Bool
never g = false

-- of a move: none in hand; at the first barrier
abbrev pub Idle : Move → Type 0
Idle v = T (not (in_hand (stage_of v.stage)))

abbrev pub First : Move → Type 0
First v = T (first (stage_of v.stage))

abbrev stages : List Stage
stages = NoMove ∷ FirstBarrier ∷ Copying ∷ SecondBarrier ∷ ThirdBarrier ∷ []

all_stages : (f : Stage → Bool) (l : List Stage) → T (all f l) → (n : ℕ) (d : Stage) → T (f d) → T (f (get_or l n d))
all_stages f [] t n d u = u
all_stages f (x ∷ l) t zero d u = (both_hold (f x) (all f l) t).0
all_stages f (x ∷ l) t (suc n) d u = all_stages f l (both_hold (f x) (all f l) t).1 n d u

follows : (p q r : Bool) → T (p ⇒ q ⇒ r) → T p → T q → T r
follows true true r t a b = t
follows true false r t a b = absurd b
follows false q r t a b = absurd a

-- where p and q hold of a move's stage, so does r: `tt` proves it where it does at each of the five
pub at_stage : (p q r : Stage → Bool) → T (all (λ g. p g ⇒ q g ⇒ r g) stages) → (n : ℕ) → T (p (stage_of n)) → T (q (stage_of n))
    → T (r (stage_of n))
at_stage p q r t n =
    follows (p (stage_of n)) (q (stage_of n)) (r (stage_of n))
    (all_stages (λ g. p g ⇒ q g ⇒ r g) stages t n NoMove (both_hold (p NoMove ⇒ q NoMove ⇒ r NoMove) _ t).0)

pub not_both : (v : Move) → Early v → Late v → ⊥
not_both v = at_stage early late never tt v.stage

-- with no move in hand
pub idle_of : (v : Move) → in_hand (stage_of v.stage) ≡ false → Idle v
idle_of v e = rw e tt

pub idle_early : (v : Move) → Idle v → Early v → ⊥
idle_early v = at_stage (λ g. not (in_hand g)) early never tt v.stage

pub idle_late : (v : Move) → Idle v → Late v → ⊥
idle_late v = at_stage (λ g. not (in_hand g)) late never tt v.stage
