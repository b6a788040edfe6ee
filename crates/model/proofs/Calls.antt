-- What the calls give, in 01's words: 1 and 2 refuse, "30 with 0, or for fill with the figure, when they succeed", and the sizes and words
-- of a run. Assumes nothing.
use mathlib.Core.Path.{◌≡◌, refl, ap}
use mathlib.Core.Logic.{◌≢◌}
use mathlib.Core.Bool.{true, false}
use mathlib.Core.List.{List, [], ◌∷◌}
use Prim.Native.Nat.{ℕ, zero, suc, ◌*◌, ◌/◌, ◌%◌, ◌≤◌}
use native.Mathlib.Omega.{arith}
use lib.ListN.{length}
use Rattle.model.specs.declared.Answer.TheVariants.{Refused, Done}
use Rattle.model.specs.Arena.{fill}
use Rattle.model.specs.State.{State, Outcome, outcome, number, value, fresh}
use Rattle.model.specs.Steps.{Step, step, refused, act, wrong_size, unsound, fresh_call, audit_call, fill_call, step_call, Ran, ran}
use Rattle.model.specs.Steps.{one_by_one, steps_from, steps_of, run_sizes, run_call}
use Rattle.model.specs.Rules.{first_broken}
use Rattle.model.proofs.Choice.{by_test}
use Rattle.model.proofs.Says.{Says, says_as, says_eq, says_le, says_not, says_and}

-- a state that breaks no rule is not refused by 2
pub sound_passes : (s : State) → first_broken s ≡ 0 → unsound s ≡ false
unfolding unsound
sound_passes s e = rw e refl

pub unsound_fails : (s : State) → first_broken s ≢ 0 → unsound s ≡ true
unfolding unsound
unsound_fails s n = (says_not (says_eq (first_broken s) 0)).test n

module _ (s : State) where
  -- 1 "arena is not 8,192 words, or table not eight rows"
  pub says_wrong_size : Says (wrong_size s) (¬ ((length s.arena ≡ 8192) × (length s.table ≡ 8)))
  unfolding wrong_size
  says_wrong_size = says_not (says_and (says_eq _ _) (says_eq _ _))

  pub record Refuse1 : Type 0 where
    pub fresh : fresh_call s ≡ refused s 1
    pub audit : audit_call s ≡ refused s 1
    pub fill : fill_call s ≡ refused s 1
    pub step : (t : Step) → step_call s t ≡ refused s 1

  pub wrong_size_refused : wrong_size s ≡ true → Refuse1
  unfolding fresh_call audit_call fill_call step_call
  wrong_size_refused e = record { fresh = rw e refl; audit = rw e refl; fill = rw e refl; step = λ t. rw e refl }

  module _ (right : wrong_size s ≡ false) where
    -- 2 "state breaks a rule R1 to R8": a step and fill are refused, fresh and audit are not
    pub step_unsound : (t : Step) → first_broken s ≢ 0 → step_call s t ≡ refused s 2
    unfolding step_call
    step_unsound t n = rw (right, unsound_fails s n) refl

    pub fill_unsound : first_broken s ≢ 0 → fill_call s ≡ refused s 2
    unfolding fill_call
    fill_unsound n = rw (right, unsound_fails s n) refl

    pub step_sound : (t : Step) → first_broken s ≡ 0 → step_call s t ≡ act s t
    unfolding step_call
    step_sound t e = rw (right, sound_passes s e) refl

    pub fill_sound : first_broken s ≡ 0 → fill_call s ≡ outcome (Done (fill s.control.map)) s
    unfolding fill_call
    fill_sound e = rw (right, sound_passes s e) refl

    pub fresh_succeeds : fresh_call s ≡ outcome (Done 0) fresh
    unfolding fresh_call
    fresh_succeeds = rw right refl

    pub audit_succeeds : audit_call s ≡ outcome (Done (first_broken s)) s
    unfolding audit_call
    audit_succeeds = rw right refl

    -- the steps of a run are done
    pub run_sound : (ws slots : List ℕ) → run_sizes ws slots ≡ true → first_broken s ≡ 0
        → run_call s ws slots ≡ one_by_one act s (steps_of ws)
    unfolding run_call
    run_sound ws slots q e = rw (right, q, sound_passes s e) refl

    -- 2 refuses the whole run: the answer slots and the state stay as they are
    pub run_unsound : (ws slots : List ℕ) → run_sizes ws slots ≡ true → first_broken s ≢ 0 → run_call s ws slots ≡ ran (Refused 2) slots s
    unfolding run_call
    run_unsound ws slots q n = rw (right, q, unsound_fails s n) refl

  -- and so does 1, for the sizes of arena and table or for those of steps and slots
  pub run_wrong_size : (ws slots : List ℕ) → wrong_size s ≡ true → run_call s ws slots ≡ ran (Refused 1) slots s
  unfolding run_call
  run_wrong_size ws slots e = rw e refl

  pub run_wrong_steps : (ws slots : List ℕ) → run_sizes ws slots ≡ false → run_call s ws slots ≡ ran (Refused 1) slots s
  unfolding run_call
  run_wrong_steps ws slots e = by_test (λ (r : Ran). r ≡ ran (Refused 1) slots s) (wrong_size s) (λ _. refl) (λ _. rw e refl)

-- "A run of up to 4,096 steps (five words each, with a two-word answer slot for each": its numbers of words
pub record RunSizes (ws slots : List ℕ) : Type 0 where
  pub steps : ℕ
  pub most : steps ≤ 4096
  pub words : length ws ≡ 5 * steps
  pub answers : length slots ≡ 2 * steps

pub says_run_sizes : (ws slots : List ℕ) → Says (run_sizes ws slots) (RunSizes ws slots)
unfolding run_sizes
says_run_sizes ws slots = says_as to from (says_and (says_le _ _) (says_and (says_eq _ _) (says_eq _ _)))
  where
    to : (length ws ≤ 20480) × ((length ws % 5 ≡ 0) × (length slots ≡ 2 * (length ws / 5))) → RunSizes ws slots
    to k = record { steps = length ws / 5; most = omega (arith, k.0); words = omega (arith, k.1.0); answers = k.1.1 }

    from : RunSizes ws slots → (length ws ≤ 20480) × ((length ws % 5 ≡ 0) × (length slots ≡ 2 * (length ws / 5)))
    from r = (omega (arith, r.most, r.words), (omega (arith, r.words), omega (arith, r.words, r.answers)))

-- a run has as many steps as its words say, a slot of two words for each, and answers 30 with 0
pub steps_length : (ws : List ℕ) (i n : ℕ) → length (steps_from ws i n) ≡ n
unfolding steps_from
steps_length ws i zero = refl
steps_length ws i (suc n) = ap suc (steps_length ws (suc i) n)

module _ (f : State → Step → Outcome) where
  pub slots_length : (s : State) (l : List Step) → length (one_by_one f s l).slots ≡ 2 * length l
  slots_length s [] = refl
  slots_length s (t ∷ l) = omega (arith, slots_length (f s t).next l)

  pub ran_done : (s : State) (l : List Step) → (one_by_one f s l).answer ≡ Done 0
  ran_done s [] = refl
  ran_done s (t ∷ l) = ran_done (f s t).next l

-- the five words of a step are its numbers, and the two of its slot the answer's number and value
pub one_step_lem : (s : State) (who code a b v : ℕ)
    → let o = act s (step who code a b v) in
    one_by_one act s (steps_of (who ∷ code ∷ a ∷ b ∷ v ∷ [])) ≡ ran (Done 0) (number o.answer ∷ value o.answer ∷ []) o.next
unfolding steps_from
one_step_lem s who code a b v = refl
