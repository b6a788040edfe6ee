-- The loop over the steps: which steps there are, one turn more, and none where no step is left. Assumes nothing.
use Rattle.std.proofs.Common.{◌≡◌, refl, ◌∙◌, List, [], true, false, ℕ, zero, suc, ◌+◌, ◌-◌, ◌*◌, ◌/◌, ◌≤◌, ◌<◌, min, length, get_or, take, drop, add-one, arith}
use Rattle.std.specs.Simd.{first_chunks}
use Rattle.std.proofs.lemmas.Bool.{false_from_ne_true}
use Rattle.std.proofs.lemmas.List.{get_or-take}
use lib.Dec.{ltb}
use borrow.Author.Tests.{ltb-true, lt-ltb, le-ltb}
use Rattle.model.specs.declared.Answer.{Answer}
use Rattle.model.specs.declared.Control.{Control}
use Rattle.model.specs.Choice.{◌and◌}
use Rattle.model.specs.Steps.{step_at}
use Rattle.model.proofs.Choice.{and_parts, and_no}
use Rattle.table.proofs.Chunks.{chunk_at, word_in, first_in}
use Rattle.answers.specs.Answers.{told_as}
use Rattle.acts.specs.Acts.{lent, turn_on, TurnDoes}
use Rattle.turns.specs.Runs.{step_of, numbers_at, Going, going, put_told, has_step, after, turns_from}

-- whether there is a step i
pub step_there : (words slots i : ℕ) → i < 4096 → 5 * i + 4 < words → 2 * i + 1 < slots → has_step words slots i ≡ true
unfolding has_step
step_there words slots i p q r = rw (lt-ltb i 4096 p, lt-ltb (5 * i + 4) words q, lt-ltb (2 * i + 1) slots r)

no_step : (words slots i : ℕ) → words ≤ 5 * i + 4 → has_step words slots i ≡ false
unfolding has_step
no_step words slots i h = rw (le-ltb (5 * i + 4) words h) (and_no (ltb i 4096))

-- the steps that there are: no step is left behind n
no_more_steps : (words slots n : ℕ) → n ≡ min (min (words / 5) (slots / 2)) 4096 → has_step words slots n ≡ false
unfolding has_step
no_more_steps words slots n e =
    false_from_ne_true (has_step words slots n)
    (λ h.
    let p = and_parts (ltb n 4096) (ltb (5 * n + 4) words and ltb (2 * n + 1) slots) h in
    let q = and_parts (ltb (5 * n + 4) words) (ltb (2 * n + 1) slots) p.1 in
    let a : n < 4096 = ltb-true n 4096 p.0 in
    let b : 5 * n + 4 < words = ltb-true (5 * n + 4) words q.0 in
    let c : 2 * n + 1 < slots = ltb-true (2 * n + 1) slots q.1 in
    omega arith)

-- step i as the loop has it: a chunk of five words
pub chunk_step : (ws : List ℕ) (i n : ℕ) → i < n → n ≤ length ws / 5
    → step_of (numbers_at (get_or (take n (first_chunks 5 (length ws / 5) ws)) i []) 0) ≡ step_at ws i
chunk_step ws i n h k =
    let e : get_or (take n (first_chunks 5 (length ws / 5) ws)) i [] ≡ take 5 (drop (5 * i) ws) =
    get_or-take n (first_chunks 5 (length ws / 5) ws) i [] h ∙ chunk_at 5 (length ws / 5) i ws [] (omega arith) in
    rw (
      e,
      first_in 5 ws (5 * i) (omega arith),
      word_in 5 ws (5 * i) 1 (omega arith),
      word_in 5 ws (5 * i) 2 (omega arith),
      word_in 5 ws (5 * i) 3 (omega arith),
      word_in 5 ws (5 * i) 4 (omega arith),
    )

pub turns_stop : (ws : List ℕ) (i n : ℕ) (g : Going) → has_step (length ws) (length g.slots) i ≡ false → turns_from ws i n g ≡ g
unfolding turns_from
turns_stop ws i zero g e = refl
turns_stop ws i (suc n) g e = rw e

pub turns_end : (ws : List ℕ) (i n : ℕ) (g : Going) → length ws ≤ 5 * i + 4 → turns_from ws i n g ≡ g
turns_end ws i n g h = turns_stop ws i n g (no_step (length ws) (length g.slots) i h)

pub turns_next : (ws : List ℕ) (i n : ℕ) (g : Going) → has_step (length ws) (length g.slots) i ≡ true
    → turns_from ws i (suc n) g ≡ turns_from ws (suc i) n (after i g (turn_on g.lent (step_at ws i)))
unfolding turns_from
turns_next ws i n g e = rw e

-- what the loop keeps: the whole run is the turns that are left, on what is lent now
pub turns_more : (ws : List ℕ) (i : ℕ) (whole : Going) (c : Control) (a t s : List ℕ) (x : Answer)
    {d : Control} {b u v : List ℕ} {y : Answer}
    → whole ≡ turns_from ws i (4096 - i) (going (lent c a t) s x) → i < min (min (length ws / 5) (length s / 2)) 4096
    → TurnDoes d b u y (turn_on (lent c a t) (step_at ws i)) → v ≡ put_told s i (told_as y)
    → whole ≡ turns_from ws (i + 1) (4096 - (i + 1)) (going (lent d b u) v y)
turns_more ws i whole c a t s x w h o ev =
    let k : 4096 - i ≡ suc (4096 - (i + 1)) = omega arith in
    let g : Going = going (lent c a t) s x in
    let there = step_there (length ws) (length s) i (omega arith) (omega arith) (omega arith) in
    let n : turns_from ws i (4096 - i) g ≡ turns_from ws (suc i) (4096 - (i + 1)) (after i g (turn_on (lent c a t) (step_at ws i))) =
    rw k (turns_next ws i (4096 - (i + 1)) g there) in
    w ∙ (n ∙ rw (ev, o.answer, o.control, o.arena, o.table, add-one i))

pub turns_done : (ws : List ℕ) (n : ℕ) (g : Going) → n ≡ min (min (length ws / 5) (length g.slots / 2)) 4096
    → turns_from ws n (4096 - n) g ≡ g
turns_done ws n g e = turns_stop ws n (4096 - n) g (no_more_steps (length ws) (length g.slots) n e)
