-- Laws of the whole program: its three ways, and a run's lines one step at a time.
use mathlib.Core.Path.{◌≡◌}
use mathlib.Core.List.{List, ◌∷◌}
use Prim.Native.Nat.{ℕ, ◌+◌, ◌≤◌, ◌<◌}
use native.Mathlib.Omega.{arith}
use borrow.Author.Tests.{lt-ltb, le-ltb}
use lib.ListN.{length, get_or, drop, get_or-append}
use lib.Seq.{sets, sets-eq}
use Rattle.model.specs.State.{State, Outcome, number, value}
use Rattle.model.specs.Steps.{Step, one_by_one}
use Rattle.std.specs.Prelude.{Result, Ok, Err}
use Rattle.script.specs.declared.Script.{Script}
use Rattle.script.specs.declared.BadFile.{BadFile}
use Rattle.script.specs.Lines.{parse}
use Rattle.script.specs.Printing.{line2, bad_file, too_long, Page, written}
use Rattle.script.specs.Replay.{answer_lines, printed, first_run, second_run, replayed, replay_text}
use Rattle.script.proofs.Pages.{written_append}

-- "at most 65,536 bytes (else prints `too long`)"
pub replay_too_long : (s : List ℕ) → 65536 < length s → replay_text s ≡ too_long
unfolding replay_text
replay_too_long s h = simp (lt-ltb 65536 (length s) h)

pub replay_by : (s : List ℕ) (x : Result Script BadFile) → length s ≤ 65536 → parse s ≡ x → replay_text s ≡ replayed s x
unfolding replay_text
replay_by s x h e = simp (le-ltb 65536 (length s) h, e)

-- "prints only `bad file N`"
pub replay_bad : (s : List ℕ) (d : BadFile) → length s ≤ 65536 → parse s ≡ Err d → replay_text s ≡ bad_file d.line
unfolding replayed
replay_bad s d h e = replay_by s (Err d) h e

pub replay_script : (s : List ℕ) (k : Script) → length s ≤ 65536 → parse s ≡ Ok k
    → replay_text s ≡ printed k.admissions.count k.steps.count (first_run s k) (second_run s k)
unfolding replayed
replay_script s k h e = replay_by s (Ok k) h e

-- a step's line, and those of the steps behind it
pub answers_more : (p : Page) (f : State → Step → Outcome) (s : State) (t : Step) (l : List Step)
    → written p (answer_lines (one_by_one f s (t ∷ l)).slots)
    ≡ written (written p (line2 (number (f s t).answer) (value (f s t).answer))) (answer_lines (one_by_one f (f s t).next l).slots)
unfolding answer_lines
answers_more p f s t l =
    written_append p (line2 (number (f s t).answer) (value (f s t).answer)) (answer_lines (one_by_one f (f s t).next l).slots)

-- numbers laid out as words are read back
pub words_there : (words vs : List ℕ) (i : ℕ) → length vs ≤ length words → i < length vs → get_or (sets words 0 vs) i 0 ≡ get_or vs i 0
words_there words vs i h p = rw (sets-eq vs words 0 (omega arith)) (get_or-append vs (drop (0 + length vs) words) 0 i p)
