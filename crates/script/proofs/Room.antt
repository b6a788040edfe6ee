-- Room: a text of 65,536 bytes holds at most 32,766 numbers, and what is printed for it has at most 229,440 bytes, which are all written.
use mathlib.Core.Path.{◌≡◌, refl, ap, ◌∙◌}
use mathlib.Core.Logic.{⊎_elim}
use mathlib.Core.List.{List, [], ◌∷◌}
use Prim.Native.Nat.{ℕ, zero, suc, ◌+◌, ◌*◌, ◌/◌, ◌^◌, ◌≤◌, ◌<◌}
use native.Mathlib.Nat.{pow-suc}
use native.Mathlib.Omega.{arith}
use native.Mathlib.Numerals.{add-one}
use borrow.Author.Tests.{lt-ltb, le-ltb}
use lib.ListN.{length, set, length-append, length-set}
use lib.Seq.{sets}
use Rattle.model.proofs.Choice.{order}
use Rattle.model.specs.Arena.{fill}
use Rattle.model.specs.State.{State, fresh}
use Rattle.model.specs.Steps.{act, Ran, steps_from}
use Rattle.model.proofs.Calls.{steps_length, slots_length}
use Rattle.std.specs.Prelude.{Result, Ok, Err}
use Rattle.script.specs.declared.Script.{Script}
use Rattle.script.specs.declared.BadFile.{BadFile}
use Rattle.script.specs.Lines.{parse, numbers_at}
use Rattle.script.specs.Replay.{admissions_from, answer_lines, all_swaps, five_totals, total_lines, printed, admissions_run, steps_run}
use Rattle.script.specs.Replay.{first_run, second_run, replayed, replay_text}
use Rattle.script.specs.Sizes.{Short, none, more, Totals, Sized}
use Rattle.script.specs.Printing.{decimal, line1, line2, page, written}
use Rattle.script.proofs.Accepted.{Fits, script_fits, bad_low}
use Rattle.script.proofs.Pages.{put_room, decimal_small, decimal_more}

-- where there is room, all of a text is written
pub written_whole : (l bytes : List ℕ) (at : ℕ) → at + length l ≤ length bytes
    → written (page bytes at) l ≡ page (sets bytes at l) (at + length l)
unfolding written
written_whole [] bytes at h = ap (page bytes) (omega arith)
written_whole (b ∷ l) bytes at h =
    rw (put_room bytes at b (omega arith), add-one)
    (written_whole l (set bytes at b) (suc at) (rw length-set (omega arith)) ∙ ap (page (sets (set bytes at b) (suc at) l)) (omega arith))

-- a number below 10 ^ d has at most d digits
pub decimal_short : (d n : ℕ) → n < 10 ^ suc d → length (decimal n) ≤ suc d
decimal_short zero n h = rw (decimal_small n h) (omega arith)
decimal_short (suc d) n h =
    ⊎_elim (λ p. rw (decimal_small n p) (omega arith))
    (λ q. rw (decimal_more n q, length-append) (omega (arith, decimal_short d (n / 10) (omega (arith, pow-suc 10 (suc d))))))
    (order n 10)

line1_short : (d n : ℕ) → n < 10 ^ suc d → length (line1 n) ≤ suc (suc d)
unfolding line1
line1_short d n h = rw length-append (omega (arith, decimal_short d n h))

-- an answer below 100 and a value of 32 bits: 14 bytes
line2_short : (n v : ℕ) → n < 100 → v < 4294967296 → length (line2 n v) ≤ 14
unfolding line2
line2_short n v p q = rw length-append (omega (arith, decimal_short 1 n p, line1_short 9 v (omega arith)))

answers_short : {slots : List ℕ} → Short slots → length (answer_lines slots) ≤ 7 * length slots
unfolding answer_lines
answers_short none = omega arith
answers_short (more {n = n} {v = v} {slots = slots} p q r) = rw length-append (omega (arith, line2_short n v p q, answers_short r))

-- two words for each step
admissions_length : (words : List ℕ) (i n : ℕ) → length (admissions_from words i n) ≡ n
unfolding admissions_from
admissions_length words i zero = refl
admissions_length words i (suc n) = ap suc (admissions_length words (suc i) n)

totals_short : (s : State) → Totals s → length (total_lines s) ≤ 52
unfolding five_totals
totals_short s t =
    simp length-append
    (omega (
      arith,
      line1_short 0 5 (omega arith),
      line1_short 9 s.control.begun (omega (arith, t.begun)),
      line1_short 9 s.control.committed (omega (arith, t.committed)),
      line1_short 9 s.control.aborted (omega (arith, t.aborted)),
      line1_short 10 (all_swaps s.table) (omega (arith, t.swaps)),
      line1_short 3 (fill s.control.map) (omega (arith, t.filled)),
    ))

printed_short : (s : List ℕ) (k : Script) (first then : Ran) → Fits s k → length s ≤ 65536
    → length first.slots ≡ 2 * k.admissions.count → length then.slots ≡ 2 * k.steps.count → Sized first then
    → length (printed k.admissions.count k.steps.count first then) ≤ 229440
unfolding printed
printed_short s k first then fits h lm lk z =
    simp length-append
    (omega (
      arith,
      fits.bytes,
      line1_short 9 k.admissions.count (omega (arith, fits.numbers.few_admissions)),
      line1_short 9 k.steps.count (omega (arith, fits.numbers.few_steps)),
      answers_short z.admitted,
      answers_short z.stepped,
      totals_short then.next z.totals,
    ))

admissions_slots : (s : List ℕ) (m at : ℕ) → length (admissions_run s m at).slots ≡ 2 * m
unfolding admissions_run
admissions_slots s m at =
    slots_length act fresh (admissions_from (numbers_at s (2 * m) at) 0 m)
    ∙ ap (λ (n : ℕ). 2 * n) (admissions_length (numbers_at s (2 * m) at) 0 m)

steps_slots : (s : List ℕ) (k at : ℕ) (first : Ran) → length (steps_run s k at first).slots ≡ 2 * k
unfolding steps_run
steps_slots s k at first =
    slots_length act first.next (steps_from (numbers_at s (5 * k) at) 0 k)
    ∙ ap (λ (n : ℕ). 2 * n) (steps_length (numbers_at s (5 * k) at) 0 k)

-- a script's runs are sized
abbrev pub SizedRuns : List ℕ → Type 0
SizedRuns s = (k : Script) → parse s ≡ Ok k → Sized (first_run s k) (second_run s k)

replayed_short : (s : List ℕ) (x : Result Script BadFile) → parse s ≡ x → length s ≤ 65536 → SizedRuns s → length (replayed s x) ≤ 229440
unfolding replayed
replayed_short s (Err d) e h z = omega (arith, line1_short 9 d.line (bad_low s d e))
replayed_short s (Ok k) e h z =
    printed_short s k (first_run s k) (second_run s k) (script_fits s k e) h
    (admissions_slots s k.admissions.count k.admissions.start) (steps_slots s k.steps.count k.steps.start (first_run s k)) (z k e)

pub replay_short : (s : List ℕ) → SizedRuns s → length (replay_text s) ≤ 229440
unfolding replay_text
replay_short s z =
    ⊎_elim (λ p. simp (lt-ltb 65536 (length s) p) (omega arith))
    (λ q. simp (le-ltb 65536 (length s) q) (replayed_short s (parse s) refl q z))
    (order 65536 (length s))
