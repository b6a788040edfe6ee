-- Every step keeps R1 to R8 and the sizes, from any sound state of the right sizes: by the invariant, there and back.
-- Assumes nothing.
use mathlib.Core.Path.{◌≡◌}
use mathlib.Core.List.{List}
use Rattle.model.specs.State.{State, Sizes}
use Rattle.model.specs.Steps.{Step, name_of, act}
use Rattle.model.specs.Rules.{first_broken}
use Rattle.model.proofs.Readings.{sound_of, sound_test}
use Rattle.demands.specs.Log.{Account, said_by, after, log, said}
use Rattle.demands.specs.Promises.{SoundKept}
use Rattle.demands.proofs.Inv.{Inv}
use Rattle.demands.proofs.Always.{act_inv, always}
use Rattle.demands.proofs.FromRules.{account_of, inv_of}
use Rattle.demands.proofs.ToRules.{sound_of_inv, sizes_of_inv}

module _ (s : State) (t : Step) (Z : Sizes s) (e : first_broken s ≡ 0) where
  -- the account read off the state, and one line more
  abbrev account : Account
  account = said_by (name_of t) (account_of s) t (act s t).answer

  kept : Inv ⊥ (act s t).next account
  kept = act_inv s (account_of s) t (inv_of s Z (sound_of s e))

  pub sizes_kept : Sizes (act s t).next
  sizes_kept = sizes_of_inv (act s t).next account kept

pub sound_kept : SoundKept
sound_kept s t Z e = sound_test (act s t).next (sound_of_inv (act s t).next (account s t Z e) (kept s t Z e))

-- every state that steps reach from fresh
pub after_sound : (l : List Step) → first_broken (after l) ≡ 0
after_sound l = sound_test (after l) (sound_of_inv (after l) (said (log l)) (always {X = ⊥} l))

pub after_sizes : (l : List Step) → Sizes (after l)
after_sizes l = sizes_of_inv (after l) (said (log l)) (always {X = ⊥} l)
