-- A section's steps one by one: at each turn those that were run; its numbers laid out as words are its steps; its runs are those of the
-- definition. Assumes nothing.
use mathlib.Core.Path.{◌≡◌, refl, ap, ◌∙◌}
use mathlib.Core.Logic.{⊎_elim}
use mathlib.Core.List.{List, [], ◌∷◌, ◌++◌, append-nil}
use Prim.Native.Nat.{ℕ, zero, suc, ◌+◌, ◌-◌, ◌*◌, ◌≤◌}
use native.Mathlib.Omega.{arith}
use lib.ListN.{length, get_or, take, drop, replicate, length-replicate, get_or-eq_default}
use lib.Seq.{sets, sets-eq, get_or-append-add, get_or-drop}
use Rattle.model.specs.State.{State}
use Rattle.model.specs.Steps.{Step, act, Ran, one_by_one, steps_from}
use Rattle.model.proofs.Choice.{order}
use Rattle.model.proofs.Says.{get_d_fresh}
use Rattle.std.specs.Prelude.{Option, Some, None}
use Rattle.script.specs.declared.printing.Page.{Page}
use Rattle.script.specs.Numbers.{Found, number_at}
use Rattle.script.specs.Lines.{numbers_at}
use Rattle.script.specs.Printing.{written}
use Rattle.script.specs.Pages.{seen, Writes}
use Rattle.script.specs.Replay.{admissions_from, answer_lines}
use Rattle.script.specs.Sizes.{none}
use Rattle.script.proofs.Lines.{numbers_none, numbers_stop, numbers_go_on}
use Rattle.script.proofs.Pages.{written_append}
use Rattle.script.proofs.Replay.{words_there}
use Rattle.turns.specs.declared.Numbers.{Numbers}
use Rattle.play.specs.declared.Lines.{Lines}
use Rattle.play.specs.declared.Lines.TheVariants.{Admissions, Steps}
use Rattle.play.specs.Plays.{step_in, steps_in, per_line, run_in, section_run, numbers_of, one_step, Plays}
use Rattle.play.proofs.Steps.{Leads, leads_from, leads_on, leads_behind, leads_end}

-- A section's lines: one more behind those that were run
steps_behind : (lines : Lines) (words : List ℕ) (i n : ℕ)
    → steps_in lines words i (suc n) ≡ steps_in lines words i n ++ (step_in lines words (i + n) ∷ [])
unfolding steps_in
steps_behind lines words i zero = ap (λ (k : ℕ). step_in lines words k ∷ []) (omega arith)
steps_behind lines words i (suc n) =
    let k : suc i + n ≡ i + suc n = omega arith in
    ap (λ (l : List Step). step_in lines words i ∷ l) (steps_behind lines words (suc i) n
    ∙ ap (λ (j : ℕ). steps_in lines words (suc i) n ++ (step_in lines words j ∷ [])) k)

-- the first steps of a section, and one more
module _ (s : State) (lines : Lines) (words : List ℕ) where
  pub plays_none : {p q : Page} {first : List ℕ} → Writes p q first → Plays s s p q first (run_in s lines words 0)
  unfolding steps_in answer_lines
  plays_none {p} {q} {first} w = record { next = refl; prints = rw (append-nil first) w; short = none }

  pub plays_more : (i : ℕ) (m n : State) (x : Numbers) {p q r : Page} {first : List ℕ} → x ≡ numbers_of (step_in lines words i)
      → Plays s m p q first (run_in s lines words i) → Plays m n q r [] (one_step m x) → Plays s n p r first (run_in s lines words (i + 1))
  plays_more i m n x {p} {q} {r} {first} e P Q =
      let t : Step = step_in lines words i in
      let l : List Step = steps_in lines words 0 i in
      let so_far : Ran = one_by_one act s l in
      let one : i + 1 ≡ suc i = omega arith in
      let all : 0 + i ≡ i = omega arith in
      let k : steps_in lines words 0 (i + 1) ≡ l ++ (t ∷ []) =
      ap (steps_in lines words 0) one ∙ steps_behind lines words 0 i ∙ ap (λ (j : ℕ). l ++ (step_in lines words j ∷ [])) all in
      let run : Ran = one_by_one act s (l ++ (t ∷ [])) in
      let w = written (seen p) first in
      let L : Leads (seen q) (one_by_one act m (t ∷ [])) w run =
      rw (P.next, P.prints.page, written_append (seen p) first (answer_lines so_far.slots))
      (leads_behind s l (t ∷ []) P.short (leads_from w run)) in
      let Q' : Plays m n q r [] (one_step m (numbers_of t)) = rw e at Q in
      let E : Leads (seen r) (one_by_one act n []) w run = leads_on m n (numbers_of t) [] Q' L in
      rw k (leads_end (Q.prints.same_reference ∙ P.prints.same_reference) E)

-- numbers laid out over zeros: the same numbers, and zeros behind them
behind : (n : ℕ) (vs : List ℕ) (j : ℕ) → length vs ≤ n → ◌≡◌ {A = ℕ} (get_or (sets (replicate n 0) 0 vs) (length vs + j) 0) 0
behind n vs j h =
    rw (sets-eq vs (replicate n 0) 0 (rw length-replicate (omega arith)))
    (get_or-append-add vs (drop (0 + length vs) (replicate n 0)) j 0
    ∙ get_or-drop (0 + length vs) (replicate n 0) j 0 ∙ get_d_fresh n (0 + length vs + j) 0)

pub laid_out : (n : ℕ) (vs : List ℕ) (i : ℕ) → length vs ≤ n → get_or (sets (replicate n 0) 0 vs) i 0 ≡ get_or vs i 0
laid_out n vs i h =
    ⊎_elim (λ k. words_there (replicate n 0) vs i (rw length-replicate h) k)
    (λ k. let e : i ≡ length vs + (i - length vs) = omega arith in
    rw (get_or-eq_default vs 0 {n = i} k) (ap (λ (j : ℕ). get_or (sets (replicate n 0) 0 vs) j 0) e ∙ behind n vs (i - length vs) h))
    (order i (length vs))

pub steps_laid_out : (n : ℕ) (vs : List ℕ) → length vs ≤ n → (lines : Lines) (i k : ℕ)
    → steps_in lines (sets (replicate n 0) 0 vs) i k ≡ steps_in lines vs i k
unfolding steps_in
steps_laid_out n vs h lines i zero = refl
steps_laid_out n vs h Admissions i (suc k) =
    rw (laid_out n vs (2 * i) h, laid_out n vs (2 * i + 1) h, steps_laid_out n vs h Admissions (suc i) k)
steps_laid_out n vs h Steps i (suc k) =
    rw (
      laid_out n vs (5 * i) h,
      laid_out n vs (5 * i + 1) h,
      laid_out n vs (5 * i + 2) h,
      laid_out n vs (5 * i + 3) h,
      laid_out n vs (5 * i + 4) h,
      steps_laid_out n vs h Steps (suc i) k,
    )

-- at most as many numbers as are asked for
few_by : (s : List ℕ) (n at : ℕ) (x : Option Found) → number_at s at ≡ x → ((m : ℕ) → length (numbers_at s n m) ≤ n)
    → length (numbers_at s (suc n) at) ≤ suc n
few_by s n at None e ih = rw (numbers_stop s at n e) (omega arith)
few_by s n at (Some x) e ih = rw (numbers_go_on s at n x.value x.end e) (omega (arith, ih (x.end + 1)))

few : (s : List ℕ) (n at : ℕ) → length (numbers_at s n at) ≤ n
few s zero at = rw (numbers_none s at 0 refl) (omega arith)
few s (suc n) at = few_by s n at (number_at s at) refl (few s n)

-- as many zeros as a section has numbers
zeros_taken : (n room : ℕ) → n ≤ room → ◌≡◌ {A = List ℕ} (take n (replicate room 0)) (replicate n 0)
zeros_taken zero room h = refl
zeros_taken (suc n) zero h = absurd (omega arith)
zeros_taken (suc n) (suc room) h = ap (λ (l : List ℕ). 0 ∷ l) (zeros_taken n room (omega arith))

-- a section played from its words is played from its numbers
pub section_plays : (s words : List ℕ) (lines : Lines) (count size start room : ℕ) (st : State) {m : State} {p q : Page} {first : List ℕ}
    → per_line lines * count ≤ room → size ≡ per_line lines * count
    → words ≡ sets (take size (replicate room 0)) 0 (numbers_at s (length (take size (replicate {A = ℕ} room 0))) start)
    → Plays st m p q first (run_in st lines words count) → Plays st m p q first (section_run st lines s start count)
section_plays s words lines count size start room st h e f P =
    let n : ℕ = per_line lines * count in
    let vs : List ℕ = numbers_at s n start in
    let w : words ≡ sets (replicate n 0) 0 vs = f ∙ rw (e, zeros_taken n room h, length-replicate) in
    let l : steps_in lines words 0 count ≡ steps_in lines vs 0 count =
    ap (λ (z : List ℕ). steps_in lines z 0 count) w ∙ steps_laid_out n vs (few s n start) lines 0 count in
    rw l at P

-- the sections of the definition
pub admissions_are : (words : List ℕ) (i n : ℕ) → steps_in Admissions words i n ≡ admissions_from words i n
unfolding steps_in admissions_from
admissions_are words i zero = refl
admissions_are words i (suc n) = rw (admissions_are words (suc i) n)

pub steps_are : (words : List ℕ) (i n : ℕ) → steps_in Steps words i n ≡ steps_from words i n
unfolding steps_in steps_from
steps_are words i zero = refl
steps_are words i (suc n) = rw (steps_are words (suc i) n)
