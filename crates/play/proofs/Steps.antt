-- Steps one by one, from any state: at each turn the steps left lead to the page and the state that all of them lead to. Assumes nothing.
use mathlib.Core.Path.{◌≡◌, refl, sym, ◌∙◌}
use mathlib.Core.List.{List, [], ◌∷◌, ◌++◌}
use Prim.Native.Nat.{ℕ}
use Rattle.model.specs.State.{State, Outcome, number, value}
use Rattle.model.specs.Steps.{Step, act, Ran, one_by_one}
use Rattle.turns.specs.declared.Numbers.{Numbers}
use Rattle.script.specs.declared.printing.Page.{Page as Lent}
use Rattle.script.specs.Printing.{Page, written, line2}
use Rattle.script.specs.Pages.{seen}
use Rattle.script.specs.Replay.{answer_lines}
use Rattle.script.proofs.Pages.{written_append}
use Rattle.script.proofs.Replay.{answers_more}
use Rattle.script.specs.Sizes.{Short, none, more}
use Rattle.play.specs.Plays.{step_of, one_step, Plays}

-- Steps left lead to what all of them lead to
pub record Leads (p : Page) (rest : Ran) (q : Page) (all : Ran) : Type 0 where
  pub page : written p (answer_lines rest.slots) ≡ written q (answer_lines all.slots)
  pub next : rest.next ≡ all.next
  pub short : Short rest.slots → Short all.slots

pub leads_from : (p : Page) (run : Ran) → Leads p run p run
leads_from p run = record { page = refl; next = refl; short = λ h. h }

-- one line
one_line : (p : Page) (n v : ℕ) → written p (answer_lines (n ∷ v ∷ [])) ≡ written p (line2 n v)
unfolding answer_lines written
one_line p n v = written_append p (line2 n v) []

-- after one more step, the rest from what is there then: on any pages, and on lent ones
with_first : {n v : ℕ} {slots : List ℕ} → Short (n ∷ v ∷ []) → Short slots → Short (n ∷ v ∷ slots)
with_first (more i j k) h = more i j h

pub leads_past : (s : State) (t : Step) (l : List Step) {p q : Page} {all : Ran} → Short (one_by_one act s (t ∷ [])).slots
    → Leads p (one_by_one act s (t ∷ l)) q all
    → Leads (written p (line2 (number (act s t).answer) (value (act s t).answer))) (one_by_one act (act s t).next l) q all
leads_past s t l {p} h L =
    record { page = sym (answers_more p act s t l) ∙ L.page; next = L.next; short = λ k. L.short (with_first h k) }

pub leads_on : (m n : State) (x : Numbers) (l : List Step) {p q : Lent} {w : Page} {all : Ran} → Plays m n p q [] (one_step m x)
    → Leads (seen p) (one_by_one act m (step_of x ∷ l)) w all → Leads (seen q) (one_by_one act n l) w all
leads_on m n x l {p} {q} {w} {all} P L =
    let o : Outcome = act m (step_of x) in
    rw (P.next, P.prints.page, one_line (seen p) (number o.answer) (value o.answer)) (leads_past m (step_of x) l P.short L)

-- and after many
first_short : {n v : ℕ} {slots : List ℕ} → Short (n ∷ v ∷ slots) → Short (n ∷ v ∷ [])
first_short (more i j k) = more i j none

rest_short : {n v : ℕ} {slots : List ℕ} → Short (n ∷ v ∷ slots) → Short slots
rest_short (more i j k) = k

pub leads_behind : (s : State) (l k : List Step) {p q : Page} {all : Ran} → Short (one_by_one act s l).slots
    → Leads p (one_by_one act s (l ++ k)) q all
    → Leads (written p (answer_lines (one_by_one act s l).slots)) (one_by_one act (one_by_one act s l).next k) q all
unfolding answer_lines written
leads_behind s [] k h L = L
leads_behind s (t ∷ l) k {p} h L =
    rw (answers_more p act s t l) (leads_behind (act s t).next l k (rest_short h) (leads_past s t (l ++ k) (first_short h) L))

-- no step is left
pub leads_end : {s n : State} {p q : Lent} {first : List ℕ} {all : Ran} → q.out.ghost_name ≡ p.out.ghost_name
    → Leads (seen q) (one_by_one act n []) (written (seen p) first) all → Plays s n p q first all
unfolding answer_lines written
leads_end {s} {n} {p} {q} {first} {all} e L =
    record {
      next = L.next;
      prints = record { same_reference = e; page = L.page ∙ sym (written_append (seen p) first (answer_lines all.slots)) };
      short = L.short none;
    }
