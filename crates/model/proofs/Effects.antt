-- What 01 says of single steps, as facts about the definitions: what a step writes, frees and leaves alone. Assumes nothing.
use mathlib.Core.Path.{◌≡◌, refl}
use mathlib.Core.Logic.{◌≢◌}
use mathlib.Core.Bool.{true, false}
use mathlib.Core.List.{List}
use Prim.Native.Nat.{ℕ, suc, ◌<◌}
use lib.Dec.{eqb}
use lib.ListN.{length, get_or}
use lib.Seq.{get_or-set_same, get_or-set_other}
use borrow.Author.Tests.{eq-eqb, ne_eqb}
use Rattle.model.specs.declared.Access.{Access}
use Rattle.model.specs.declared.Phase.TheVariants.{Ready}
use Rattle.model.specs.declared.Row.{Row}
use Rattle.model.specs.Arena.{place, word, header, plain, flagged, target_of, words_at}
use Rattle.model.specs.State.{rise, State, told, Outcome}
use Rattle.model.specs.ClientSteps.{swap, changed}
use Rattle.model.specs.KeeperSteps.{admit, begin, move_of, replica_word, copy_word, commit}
use Rattle.model.specs.Steps.{Step, step, Name, ADMIT, RETIRE, BEGIN, ADVANCE, ATTACH, DETACH, OPEN, DROP, READ, WRITE, GO, REST}
use Rattle.model.specs.Steps.{UNKNOWN, NOBODY, name_of, refusals, effect, refused, act}
use Rattle.model.proofs.Choice.{by_test, clash}
use Rattle.model.proofs.Parties.{of_keeper, not_keepers}
use Rattle.model.proofs.Refusals.{unless_refused}

-- copying writes one word of the replica and no other: that word is the old block's, or for word 0 the header 2 × target
pub copy_writes : (s : State) → place (move_of s).target (move_of s).copied < length s.arena
    → word (copy_word s).next.arena (move_of s).target (move_of s).copied ≡ replica_word s.arena (move_of s)
unfolding copy_word
copy_writes s h =
    by_test (λ (o : Outcome). word o.next.arena (move_of s).target (move_of s).copied ≡ replica_word s.arena (move_of s))
    (eqb (rise (move_of s).copied) (words_at s.arena (move_of s).from))
    (λ _. get_or-set_same s.arena (place (move_of s).target (move_of s).copied) (replica_word s.arena (move_of s)) 0 h)
    (λ _. get_or-set_same s.arena (place (move_of s).target (move_of s).copied) (replica_word s.arena (move_of s)) 0 h)

pub copy_leaves : (s : State) (i : ℕ) → i ≢ place (move_of s).target (move_of s).copied
    → get_or (copy_word s).next.arena i 0 ≡ get_or s.arena i 0
unfolding copy_word
copy_leaves s i n =
    by_test (λ (o : Outcome). get_or o.next.arena i 0 ≡ get_or s.arena i 0)
    (eqb (rise (move_of s).copied) (words_at s.arena (move_of s).from))
    (λ _. get_or-set_other s.arena (place (move_of s).target (move_of s).copied) i (replica_word s.arena (move_of s)) 0 n)
    (λ _. get_or-set_other s.arena (place (move_of s).target (move_of s).copied) i (replica_word s.arena (move_of s)) 0 n)

-- a swap that wins clears the flag; one that loses is ready at once, at the header's target
pub swap_clears : (arena : List ℕ) (r : Row) (c : ℕ) (x : Access) → place c 0 < length arena → header arena c ≡ flagged c
    → header (changed arena (swap arena r c x).change) c ≡ plain c
unfolding swap
swap_clears arena r c x h e = rw (eq-eqb (header arena c) (flagged c) e) (get_or-set_same arena (place c 0) (plain c) 0 h)

pub swap_lost : (arena : List ℕ) (r : Row) (c : ℕ) (x : Access) → header arena c ≢ flagged c
    → (swap arena r c x).row.phase ≡ Ready (target_of (header arena c)) x
unfolding swap
swap_lost arena r c x n = rw (ne_eqb (header arena c) (flagged c) n)

-- the answers that name a cell: ADMIT's the record's, BEGIN's and the commit's the target
pub admit_answers : (s : State) (m k c : ℕ) → told (admit s m k c).answer ≡ (20, c)
admit_answers s m k c = refl

pub begin_answers : (s : State) (m c d : ℕ) → told (begin s m c d).answer ≡ (21, d)
begin_answers s m c d = refl

pub commit_answers : (s : State) → told (commit s).answer ≡ (25, (move_of s).target)
commit_answers s = refl

-- the commit frees no cell
pub commit_keeps_cells : (s : State) → (commit s).next.control.map ≡ s.control.map
commit_keeps_cells s = refl

-- a client's step leaves the control record as it was: it frees nothing, and moves no count
module _ (s : State) (t : Step) where
  abbrev Kept : Outcome → Type 0
  Kept o = o.next.control ≡ s.control

  effect_keeps : (n : Name) → of_keeper n ≡ false → Kept (effect n s t)
  effect_keeps ADMIT f = clash true refl f
  effect_keeps RETIRE f = clash true refl f
  effect_keeps BEGIN f = clash true refl f
  effect_keeps ADVANCE f = clash true refl f
  effect_keeps ATTACH f = refl
  effect_keeps DETACH f = refl
  effect_keeps OPEN f = refl
  effect_keeps DROP f = refl
  effect_keeps READ f = refl
  effect_keeps WRITE f = refl
  effect_keeps GO f = refl
  effect_keeps REST f = refl
  effect_keeps UNKNOWN f = refl
  effect_keeps NOBODY f = refl

pub client_keeps_control : (s : State) (client code a b v : ℕ) → (act s (step (suc client) code a b v)).next.control ≡ s.control
unfolding act
client_keeps_control s client code a b v =
    let t = step (suc client) code a b v in
    unless_refused (Kept s t) (refusals (name_of t) s t) (refused s) (effect (name_of t) s t) (λ _. refl)
    (λ _. effect_keeps s t (name_of t) (not_keepers client code))
