-- What is printed: a script's two sections and its totals, the definition's text, and room for all of it. Assumes nothing.
use mathlib.Core.Path.{◌≡◌, refl, sym, subst, ap, ◌∙◌}
use mathlib.Core.Logic.{⊎_elim}
use mathlib.Core.List.{List, [], ◌∷◌, append_assoc}
use Prim.Native.Nat.{ℕ, ◌+◌, ◌*◌, ◌≤◌, ◌<◌}
use native.Mathlib.Omega.{arith}
use lib.ListN.{length, take, drop, length-set}
use Rattle.std.proofs.lemmas.List.{take_all}
use lib.Seq.{sets, sets-eq, take-append_seam, length-take-le}
use Rattle.model.specs.Arena.{fill}
use Rattle.model.specs.State.{State, fresh}
use Rattle.model.specs.Steps.{Step, act, one_by_one, steps_from}
use Rattle.model.proofs.Choice.{order}
use Rattle.model.proofs.MapCount.{count_le}
use Rattle.demands.specs.Log.{after}
use Rattle.demands.proofs.Kept.{after_sizes}
use Rattle.demands.proofs.MoveCounts.{begun_is_answered, committed_is_answered, aborted_is_answered, moves_end_once}
use Rattle.demands.proofs.SwapCounts.{all_swaps_are_answered, all_swaps_at_most_begun}
use Rattle.std.specs.Prelude.{Ok, Err}
use Rattle.script.specs.declared.Script.{Script}
use Rattle.script.specs.declared.BadFile.{BadFile}
use Rattle.script.specs.declared.printing.Page.{Page as Lent}
use Rattle.script.specs.Lines.{parse, numbers_at}
use Rattle.script.specs.Printing.{Page, page, put, written, line1, bad_file, too_long}
use Rattle.script.specs.Pages.{seen, Writes}
use Rattle.script.specs.Replay.{admissions_from, total_lines, printed, first_run, second_run, admissions_run, steps_run, replay_text}
use Rattle.script.proofs.Pages.{put_room, put_full, writes_then}
use Rattle.script.proofs.Replay.{replay_too_long, replay_bad, replay_script}
use Rattle.script.specs.Sizes.{Totals, Sized}
use Rattle.script.proofs.Room.{written_whole, replay_short}
use Rattle.play.specs.declared.Lines.TheVariants.{Admissions, Steps}
use Rattle.play.specs.Plays.{section_run, Plays, Performs, Prints}
use Rattle.play.proofs.Sections.{admissions_are, steps_are}

-- Totals: those of a state that was reached, in the sizes that they have
filled_few : (map : List ℕ) → fill map ≤ 1024
unfolding fill
filled_few map = count_le map 1024

totals_after : (l : List Step) → Totals (after l)
totals_after l =
    let z = (after_sizes l).begun in
    record {
      begun = z;
      committed = omega (arith, z, begun_is_answered l, committed_is_answered l, moves_end_once l);
      aborted = omega (arith, z, begun_is_answered l, aborted_is_answered l, moves_end_once l);
      swaps = omega (arith, z, begun_is_answered l, all_swaps_are_answered l, all_swaps_at_most_begun l);
      filled = filled_few (after l).control.map;
    }

-- what steps reach from what was reached was reached
pub record Reach (s : State) : Type 0 where
  pub steps : List Step
  pub is : s ≡ after steps

pub run_reaches : (k l : List Step) → Reach (one_by_one act (after k) l).next
run_reaches k [] = record { steps = k; is = refl }
run_reaches k (t ∷ l) = run_reaches (t ∷ k) l

-- a script's two runs
module _ (s : List ℕ) (k : Script) where
  first_is : section_run fresh Admissions s k.admissions.start k.admissions.count ≡ first_run s k
  unfolding admissions_run
  first_is = ap (one_by_one act fresh) (admissions_are (numbers_at s (2 * k.admissions.count) k.admissions.start) 0 k.admissions.count)

  second_is : section_run (first_run s k).next Steps s k.steps.start k.steps.count ≡ second_run s k
  unfolding steps_run
  second_is = ap (one_by_one act (first_run s k).next) (steps_are (numbers_at s (5 * k.steps.count) k.steps.start) 0 k.steps.count)

  first_reach : Reach (first_run s k).next
  unfolding admissions_run
  first_reach = run_reaches [] (admissions_from (numbers_at s (2 * k.admissions.count) k.admissions.start) 0 k.admissions.count)

  second_reach : Reach (second_run s k).next
  unfolding steps_run
  second_reach =
      rw first_reach.is (run_reaches first_reach.steps (steps_from (numbers_at s (5 * k.steps.count) k.steps.start) 0 k.steps.count))

  pub performs : {m n : State} {p q r out : Lent}
      → Plays fresh m p q (line1 k.admissions.count) (section_run fresh Admissions s k.admissions.start k.admissions.count)
      → Plays m n q r (line1 k.steps.count) (section_run m Steps s k.steps.start k.steps.count)
      → Writes r out (total_lines n) → Performs s k p out
  unfolding printed
  performs {m} {n} {p} {q} {r} {out} P Q w =
      let P' : Plays fresh m p q (line1 k.admissions.count) (first_run s k) = rw first_is at P in
      let Q' : Plays (first_run s k).next n q r (line1 k.steps.count) (second_run s k) = rw (P'.next, second_is) at Q in
      record {
        prints = simp append_assoc at (writes_then P'.prints (writes_then Q'.prints (rw Q'.next at w)));
        sized = record { admitted = P'.short; stepped = Q'.short; totals = rw second_reach.is (totals_after second_reach.steps) };
      }

-- the page holds no more than it has room for
put_within : (bytes : List ℕ) (at b : ℕ) → at ≤ length bytes → (put (page bytes at) b).at ≤ length (put (page bytes at) b).bytes
put_within bytes at b h =
    ⊎_elim (λ p. rw (put_room bytes at b p, length-set) (omega arith)) (λ p. rw (put_full bytes at b p) h) (order at (length bytes))

written_within : (l : List ℕ) (p : Page) → p.at ≤ length p.bytes → (written p l).at ≤ length (written p l).bytes
unfolding written
written_within [] p h = h
written_within (b ∷ l) p h = written_within l (put p b) (put_within p.bytes p.at b h)

within_of : (p q : Page) → p ≡ q → q.at ≤ length q.bytes → p.at ≤ length p.bytes
within_of p q e h = rw e h

-- where there is room the text is the first bytes of the page
first_bytes : (before text : List ℕ) → length text ≤ length before → take (length text) (sets before 0 text) ≡ text
first_bytes before text h = rw (sets-eq text before 0 (omega arith)) (take-append_seam text (drop (0 + length text) before))

whole_of : (p : Page) (before text : List ℕ) → p ≡ page (sets before 0 text) (0 + length text) → length text ≤ length before
    → take p.at p.bytes ≡ text
whole_of p before text e h = let z : 0 + length text ≡ length text = omega arith in rw (e, z) (first_bytes before text h)

prints_all : (before out : List ℕ) (r : ℕ) (text : List ℕ) → page out r ≡ written (page before 0) text → length text ≤ 229440
    → Prints before out r text
prints_all before out r text e h =
    let w = within_of (page out r) (written (page before 0) text) e (written_within text (page before 0) (omega arith)) in
    record {
      page = e;
      within = w;
      counted = sym (length-take-le r out w);
      whole = λ k. whole_of (page out r) before text (e ∙ written_whole text before 0 (omega arith)) (omega arith);
    }

-- a page that was blank, and what is written on it
prints_by : (before : List ℕ) (p q : Lent) (text : List ℕ) → seen p ≡ page before 0 → Writes p q text → length text ≤ 229440
    → Prints before q.out.now q.at text
prints_by before p q text b w h = prints_all before q.out.now q.at text (w.page ∙ ap (λ (x : Page). written x text) b) h

-- the three ways, where the lent bytes end as the page does
module _ (s before : List ℕ) (p q : Lent) (b : seen p ≡ page before 0) {out : List ℕ} (o : out ≡ q.out.now) where
  pub prints_too_long : 65536 < length s → Writes p q too_long → Prints before out q.at (replay_text s)
  prints_too_long h w = rw (o, replay_too_long s h) (prints_by before p q too_long b w (omega arith))

  pub prints_bad : (d : BadFile) → length s ≤ 65536 → parse s ≡ Err d → Writes p q (bad_file d.line) → Prints before out q.at (replay_text s)
  prints_bad d h e w =
      rw o (prints_by before p q (replay_text s) b (rw (replay_bad s d h e) w)
      (replay_short s (λ k g. let z : ◌≡◌ {A = ℕ} 0 1 = cc in absurd (omega arith))))

  pub prints_script : (k : Script) → length s ≤ 65536 → parse s ≡ Ok k → Performs s k p q → Prints before out q.at (replay_text s)
  prints_script k h e P =
      rw o (prints_by before p q (replay_text s) b (rw (replay_script s k h e) P.prints)
      (replay_short s (λ j f. let same : k ≡ j = cc in subst (λ (x : Script). Sized (first_run s x) (second_run s x)) same P.sized)))

-- a text that is too long is known by one byte more than the most
pub taken_text : (s : List ℕ) → replay_text (take 65537 s) ≡ replay_text s
taken_text s =
    ⊎_elim (λ h. replay_too_long (take 65537 s) (rw (length-take-le 65537 s h) (omega arith)) ∙ sym (replay_too_long s (omega arith)))
    (λ h. ap replay_text (take_all 65537 s (omega arith)))
    (order 65536 (length s))
