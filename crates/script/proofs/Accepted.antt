-- What is known of a text that is accepted: it is the text of its numbers, all of which are there and at most 4294967295, and takes two
-- bytes for each at least.
use mathlib.Core.Path.{◌≡◌, refl, sym, subst, ap, ◌∙◌}
use mathlib.Core.Bool.{Bool, true, false}
use mathlib.Core.List.{List, [], ◌∷◌, ◌++◌, append_assoc, append-nil}
use Prim.Native.Nat.{ℕ, zero, suc, ◌+◌, ◌*◌, ◌≤◌, ◌<◌}
use native.Mathlib.Nat.{suc-mul, zero-mul, mul_comm}
use native.Mathlib.Omega.{arith}
use borrow.Author.Tests.{eqb-true}
use lib.Dec.{eqb}
use lib.ListN.{length, get_or, drop, length-append}
use lib.Seq.{drop-cons, drop-length, take_at, drop_at}
use Rattle.model.specs.Choice.{pick}
use Rattle.std.specs.Prelude.{Option, Some, None, Result, Ok, Err, ok_or}
use Rattle.script.specs.declared.Section.{Section}
use Rattle.script.specs.declared.Script.{Script}
use Rattle.script.specs.declared.BadFile.{BadFile}
use Rattle.script.specs.Numbers.{Found, found, number_at}
use Rattle.script.specs.Printing.{decimal, line1}
use Rattle.script.specs.Lines.{◌>>=◌, bad, marked, field_at, line_at, lines_at, section_at, both, parse}
use Rattle.script.specs.Lines.{numbers_at}
use Rattle.script.proofs.Numbers.{in_text, picked, number_takes}
use Rattle.script.specs.Texts.{line_rest, line_text, lines_text, script_text, Small, none, more, ScriptNumbers}
use Rattle.script.proofs.Decimal.{number_stands}
use Rattle.script.proofs.Lines.{then_ok, then_err, ok_of, err_of, line_ends, line_goes_on, line_breaks, numbers_none, numbers_go_on}

-- nothing is found where something is
no_number : {A : Type 0} (x : Option Found) (n : Found) → x ≡ None → x ≡ Some n → A
no_number x n p q = let z : ◌≡◌ {A = ℕ} 0 1 = cc in absurd (omega arith)

-- a field: a number and behind it the mark
record Field (s : List ℕ) (mark at v next : ℕ) : Type 0 where
  pub behind : ℕ
  pub stands_there : number_at s at ≡ Some (found v behind)
  pub marks : get_or s behind 0 ≡ mark
  pub ends : behind + 1 ≡ next

field_by : (s : List ℕ) (mark at : ℕ) (n : Found) (x : Option Found) → number_at s at ≡ x → marked s mark x ≡ Some n
    → Field s mark at n.value n.end
field_by s mark at n None e f = no_number None n refl f
field_by s mark at n (Some x) e f =
    let p = picked (eqb (get_or s x.end 0) mark) (found x.value (x.end + 1)) n f in
    record {
      behind = x.end;
      stands_there = e ∙ ap (λ (y : Found). Some (found y.value x.end)) p.1;
      marks = eqb-true (get_or s x.end 0) mark p.0;
      ends = ap (λ (y : Found). y.end) p.1;
    }

field_is : (s : List ℕ) (mark at : ℕ) (n : Found) → field_at s mark at ≡ Some n → Field s mark at n.value n.end
unfolding field_at
field_is s mark at n e = field_by s mark at n (number_at s at) refl e

-- it takes two bytes, is at most 4294967295, is the first of the numbers from there on, and stands there
module _ {s : List ℕ} {mark at v next : ℕ} (f : Field s mark at v next) where
  field_takes : (at + 2 ≤ next) × (v ≤ 4294967295)
  field_takes =
      let t = number_takes s at v f.behind f.stands_there in
      (omega (arith, t.0, f.ends), t.1.1)

  field_splits : (r : ℕ) → numbers_at s (suc r) at ≡ v ∷ numbers_at s r next
  field_splits r =
      numbers_go_on s at r v f.behind f.stands_there ∙ ap (λ (n : ℕ). v ∷ numbers_at s r n) f.ends

  field_stands : 0 < mark → drop at s ≡ decimal v ++ (mark ∷ drop next s)
  field_stands h =
      let i : f.behind < length s = in_text s f.behind (omega (arith, f.marks)) in
      let n : suc f.behind ≡ next = omega (arith, f.ends) in
      number_stands s at (found v f.behind) f.stands_there
      ∙ ap (λ (l : List ℕ). decimal v ++ l)
      (drop-cons s f.behind 0 i ∙ ap (λ (b : ℕ). b ∷ drop (suc f.behind) s) f.marks ∙ ap (λ (k : ℕ). mark ∷ drop k s) n)

rest_is_line : (l : List ℕ) → 0 < length l → line_rest l ≡ 32 ∷ line_text l
unfolding line_rest line_text
rest_is_line [] h = absurd (omega arith)
rest_is_line (n ∷ l) h = refl

-- a line: so many numbers and their marks
record Line (s : List ℕ) (spaces at next : ℕ) : Type 0 where
  pub takes : at + 2 * spaces + 2 ≤ next
  pub splits : (r : ℕ) → numbers_at s (suc spaces + r) at ≡ numbers_at s (suc spaces) at ++ numbers_at s r next
  pub whole : length (numbers_at s (suc spaces) at) ≡ suc spaces
  pub small : Small (numbers_at s (suc spaces) at)
  pub stands : drop at s ≡ line_text (numbers_at s (suc spaces) at) ++ drop next s

last_number : (s : List ℕ) (at v next : ℕ) → Field s 10 at v next → Line s 0 at next
unfolding line_text line_rest
last_number s at v next f =
    let one : numbers_at s 1 at ≡ v ∷ [] = field_splits f 0 ∙ ap (λ (l : List ℕ). v ∷ l) (numbers_none s next 0 refl) in
    record {
      takes = omega (arith, (field_takes f).0);
      splits = λ r. ap (λ (n : ℕ). numbers_at s n at) (omega arith) ∙ field_splits f r
          ∙ ap (λ (l : List ℕ). l ++ numbers_at s r next) (sym one);
      whole = ap length one;
      small = rw one (more (field_takes f).1 none);
      stands = rw one (field_stands f (omega arith) ∙ sym (append_assoc (decimal v) (10 ∷ []) (drop next s)));
    }

number_before : (s : List ℕ) (spaces at w m next : ℕ) → Field s 32 at w m → Line s spaces m next → Line s (suc spaces) at next
unfolding line_text
number_before s spaces at w m next f l =
    let ns : List ℕ = numbers_at s (suc spaces) m in
    let all : numbers_at s (suc (suc spaces)) at ≡ w ∷ ns = field_splits f (suc spaces) in
    let long : 0 < length ns = omega (arith, l.whole) in
    record {
      takes = omega (arith, (field_takes f).0, l.takes);
      splits = λ r. ap (λ (n : ℕ). numbers_at s n at) (omega arith) ∙ field_splits f (suc spaces + r)
          ∙ ap (λ (x : List ℕ). w ∷ x) (l.splits r) ∙ ap (λ (x : List ℕ). x ++ numbers_at s r next) (sym all);
      whole = ap length all ∙ ap suc l.whole;
      small = rw all (more (field_takes f).1 l.small);
      stands = rw (all, rest_is_line ns long)
          (field_stands f (omega arith) ∙ ap (λ (x : List ℕ). decimal w ++ (32 ∷ x)) l.stands
          ∙ sym (append_assoc (decimal w) (32 ∷ line_text ns) (drop next s)));
    }

line_by : (s : List ℕ) (spaces at : ℕ) (n : Found) (x : Option Found) → field_at s 32 at ≡ x → line_at s (suc spaces) at ≡ Some n
    → ((m : ℕ) → line_at s spaces m ≡ Some n → Line s spaces m n.end) → Line s (suc spaces) at n.end
line_by s spaces at n None f e ih = no_number (line_at s (suc spaces) at) n (line_breaks s at spaces f) e
line_by s spaces at n (Some x) f e ih =
    number_before s spaces at x.value x.end n.end (field_is s 32 at x f) (ih x.end (sym (line_goes_on s at spaces x.value x.end f) ∙ e))

line_is : (s : List ℕ) (spaces at : ℕ) (n : Found) → line_at s spaces at ≡ Some n → Line s spaces at n.end
line_is s zero at n e = last_number s at n.value n.end (field_is s 10 at n (sym (line_ends s at 0 refl) ∙ e))
line_is s (suc spaces) at n e = line_by s spaces at n (field_at s 32 at) refl e (λ m. line_is s spaces m n)

small_append : {l : List ℕ} {m : List ℕ} → Small l → Small m → Small (l ++ m)
small_append none q = q
small_append (more h p) q = more h (small_append p q)

-- so many lines
record Block (s : List ℕ) (count spaces at next : ℕ) : Type 0 where
  pub takes : at + count * (2 * spaces + 2) ≤ next
  pub whole : length (numbers_at s (count * suc spaces) at) ≡ count * suc spaces
  pub small : Small (numbers_at s (count * suc spaces) at)
  pub stands : drop at s ≡ lines_text count (suc spaces) (numbers_at s (count * suc spaces) at) ++ drop next s

no_lines : (s : List ℕ) (spaces at : ℕ) → Block s 0 spaces at at
unfolding lines_text
no_lines s spaces at =
    let empty : numbers_at s (0 * suc spaces) at ≡ [] = ap (λ (n : ℕ). numbers_at s n at) (zero-mul (suc spaces)) ∙ numbers_none s at 0 refl in
    record {
      takes = rw zero-mul (omega arith);
      whole = ap length empty ∙ sym (zero-mul (suc spaces));
      small = rw empty none;
      stands = refl;
    }

line_before : (s : List ℕ) (count spaces at m next : ℕ) → Line s spaces at m → Block s count spaces m next
    → Block s (suc count) spaces at next
unfolding lines_text
line_before s count spaces at m next l b =
    let w : ℕ = suc spaces in
    let a : List ℕ = numbers_at s w at in
    let r : List ℕ = numbers_at s (count * w) m in
    let all : numbers_at s (suc count * w) at ≡ a ++ r =
    ap (λ (n : ℕ). numbers_at s n at) (omega (arith, suc-mul count w)) ∙ l.splits (count * w) in
    record {
      takes = rw suc-mul (omega (arith, l.takes, b.takes));
      whole = ap length all ∙ length-append a r ∙ omega (arith, l.whole, b.whole, suc-mul count w);
      small = rw all (small_append l.small b.small);
      stands = rw (all, take_at a r w l.whole, drop_at a r w l.whole)
          (l.stands ∙ ap (λ (x : List ℕ). line_text a ++ x) b.stands
          ∙ sym (append_assoc (line_text a) (lines_text count w r) (drop next s)));
    }

lines_are : (s : List ℕ) (count spaces first at next : ℕ) → lines_at s count spaces first at ≡ Ok next → Block s count spaces at next
unfolding lines_at
lines_are s zero spaces first at next e = let z : at ≡ next = cc in subst (λ (n : ℕ). Block s 0 spaces at n) z (no_lines s spaces at)
lines_are s (suc count) spaces first at next e =
    let p = then_ok (ok_or (line_at s spaces at) (bad first)) (λ (n : Found). lines_at s count spaces (first + 1) n.end) next e in
    line_before s count spaces at p.0.end next (line_is s spaces at p.0 (ok_of (line_at s spaces at) (bad first) p.0 p.1))
    (lines_are s count spaces (first + 1) p.0.end next p.2)

-- a section: its count's line and its lines
record SectionThere (s : List ℕ) (spaces at : ℕ) (k : Section) : Type 0 where
  pub takes : at + 2 + k.count * (2 * spaces + 2) ≤ k.end
  pub few : k.count ≤ 4294967295
  pub whole : length (numbers_at s (k.count * suc spaces) k.start) ≡ k.count * suc spaces
  pub small : Small (numbers_at s (k.count * suc spaces) k.start)
  pub stands : drop at s ≡ (line1 k.count ++ lines_text k.count (suc spaces) (numbers_at s (k.count * suc spaces) k.start)) ++ drop k.end s

count_before : (s : List ℕ) (spaces at : ℕ) (k : Section) → Field s 10 at k.count k.start → Block s k.count spaces k.start k.end
    → SectionThere s spaces at k
unfolding line1
count_before s spaces at k f b =
    let lines : List ℕ = lines_text k.count (suc spaces) (numbers_at s (k.count * suc spaces) k.start) in
    let t = field_takes f in
    record {
      takes = omega (arith, t.0, b.takes);
      few = t.1;
      whole = b.whole;
      small = b.small;
      stands = field_stands f (omega arith) ∙ ap (λ (x : List ℕ). decimal k.count ++ (10 ∷ x)) b.stands ∙ sym (simp append_assoc);
    }

-- a line of one number is a field
one_field : (s : List ℕ) (first at : ℕ) (n : Found) → ok_or (line_at s 0 at) (bad first) ≡ Ok n → Field s 10 at n.value n.end
one_field s first at n e = field_is s 10 at n (sym (line_ends s at 0 refl) ∙ ok_of (line_at s 0 at) (bad first) n e)

-- what is read behind a section's count
abbrev lines_behind : List ℕ → ℕ → ℕ → Found → Result Section BadFile
lines_behind s spaces first n =
    lines_at s n.value spaces (first + 1) n.end >>= (λ (end : ℕ). Ok (record { count = n.value; start = n.end; end = end }))

section_is : (s : List ℕ) (spaces first at : ℕ) (k : Section) → section_at s spaces first at ≡ Ok k → SectionThere s spaces at k
unfolding section_at
section_is s spaces first at k e =
    let p = then_ok (ok_or (line_at s 0 at) (bad first)) (lines_behind s spaces first) k e in
    let q = then_ok (lines_at s p.0.value spaces (first + 1) p.0.end) (λ (end : ℕ). Ok (record { count = p.0.value; start = p.0.end; end = end })) k p.2 in
    let same : record { count = p.0.value; start = p.0.end; end = q.0 } ≡ k = cc in
    subst (SectionThere s spaces at) same
    (count_before s spaces at (record { count = p.0.value; start = p.0.end; end = q.0 }) (one_field s first at p.0 p.1)
    (lines_are s p.0.value spaces (first + 1) p.0.end q.0 q.1))

-- A script: four bytes for each admission, ten for each step, two for each count; all its numbers are there; and it is their text.
pub record Fits (s : List ℕ) (k : Script) : Type 0 where
  pub bytes : 4 * k.admissions.count + 10 * k.steps.count + 4 ≤ length s
  pub numbers : ScriptNumbers k.admissions.count (numbers_at s (2 * k.admissions.count) k.admissions.start)
      k.steps.count (numbers_at s (5 * k.steps.count) k.steps.start)
  pub stands : s ≡ script_text k.admissions.count (numbers_at s (2 * k.admissions.count) k.admissions.start)
      k.steps.count (numbers_at s (5 * k.steps.count) k.steps.start)

both_stand : (s : List ℕ) (a b : Section) → SectionThere s 1 0 a → SectionThere s 4 a.end b → b.end ≡ length s
    → s ≡ script_text a.count (numbers_at s (a.count * 2) a.start) b.count (numbers_at s (b.count * 5) b.start)
unfolding script_text
both_stand s a b t u z =
    let steps : List ℕ = line1 b.count ++ lines_text b.count 5 (numbers_at s (b.count * 5) b.start) in
    t.stands
    ∙ ap (λ (x : List ℕ). (line1 a.count ++ lines_text a.count 2 (numbers_at s (a.count * 2) a.start)) ++ x)
    (u.stands ∙ ap (λ (x : List ℕ). steps ++ x) (ap (λ (n : ℕ). drop n s) z ∙ drop-length s) ∙ append-nil steps)

abbrev script : Section → Section → Script
script a b = record { admissions = a; steps = b }

both_fit : (s : List ℕ) (a b : Section) → SectionThere s 1 0 a → SectionThere s 4 a.end b → b.end ≡ length s → Fits s (script a b)
both_fit s a b t u z =
    record {
      bytes = omega (arith, t.takes, u.takes);
      numbers =
          record {
            few_admissions = t.few;
            few_steps = u.few;
            two_each = rw (mul_comm 2 a.count) t.whole;
            five_each = rw (mul_comm 5 b.count) u.whole;
            small_admissions = rw (mul_comm 2 a.count) t.small;
            small_steps = rw (mul_comm 5 b.count) u.small;
          };
      stands = rw (mul_comm 2 a.count, mul_comm 5 b.count) (both_stand s a b t u z);
    }

-- the end of the text decides
ended : (x : Bool) (n : ℕ) (k j : Script) → pick x (Ok k) (Err (bad n)) ≡ Ok j → (x ≡ true) × (k ≡ j)
ended true n k j e = (refl, cc)
ended false n k j e = let z : ◌≡◌ {A = ℕ} 0 1 = cc in absurd (omega arith)

pub script_fits : (s : List ℕ) (k : Script) → parse s ≡ Ok k → Fits s k
unfolding parse
script_fits s k e =
    let p = then_ok (section_at s 1 1 0) (λ (a : Section). section_at s 4 (a.count + 2) a.end >>= both s a) k e in
    let a : Section = p.0 in
    let q = then_ok (section_at s 4 (a.count + 2) a.end) (both s a) k p.2 in
    let b : Section = q.0 in
    let r = ended (eqb b.end (length s)) (a.count + b.count + 3) (script a b) k q.2 in
    subst (Fits s) r.1
    (both_fit s a b (section_is s 1 1 0 a p.1) (section_is s 4 (a.count + 2) a.end b q.1) (eqb-true b.end (length s) r.0))

-- The number of a wrong line has at most ten digits.
wrong_low : (s : List ℕ) (count spaces first at : ℕ) (d : BadFile) → lines_at s count spaces first at ≡ Err d → d.line ≤ first + count
unfolding lines_at
wrong_low s zero spaces first at d e = let z : ◌≡◌ {A = ℕ} 0 1 = cc in absurd (omega arith)
wrong_low s (suc count) spaces first at d e =
    then_err (ok_or (line_at s spaces at) (bad first)) (λ (n : Found). lines_at s count spaces (first + 1) n.end) d e
    (λ g. let z : first ≡ d.line = ap (λ (x : BadFile). x.line) (err_of (line_at s spaces at) (bad first) d g) in omega arith)
    (λ n f g. omega (arith, wrong_low s count spaces (first + 1) n.end d g))

section_wrong : (s : List ℕ) (spaces first at : ℕ) (d : BadFile) → section_at s spaces first at ≡ Err d → d.line ≤ first + 4294967296
unfolding section_at
section_wrong s spaces first at d e =
    then_err (ok_or (line_at s 0 at) (bad first)) (lines_behind s spaces first) d e
    (λ g. let z : first ≡ d.line = ap (λ (x : BadFile). x.line) (err_of (line_at s 0 at) (bad first) d g) in omega arith)
    (λ n f g. then_err (lines_at s n.value spaces (first + 1) n.end) (λ (end : ℕ). Ok (record { count = n.value; start = n.end; end = end })) d g
    (λ h. omega (arith, wrong_low s n.value spaces (first + 1) n.end d h, (field_takes (one_field s first at n f)).1))
    (λ end h k. let z : ◌≡◌ {A = ℕ} 0 1 = cc in absurd (omega arith)))

refused : (x : Bool) (n : ℕ) (k : Script) (d : BadFile) → pick x (Ok k) (Err (bad n)) ≡ Err d → n ≡ d.line
refused true n k d e = let z : ◌≡◌ {A = ℕ} 0 1 = cc in absurd (omega arith)
refused false n k d e = let z : bad n ≡ d = cc in ap (λ (x : BadFile). x.line) z

pub bad_low : (s : List ℕ) (d : BadFile) → parse s ≡ Err d → d.line < 10000000000
unfolding parse
bad_low s d e =
    then_err (section_at s 1 1 0) (λ (a : Section). section_at s 4 (a.count + 2) a.end >>= both s a) d e
    (λ f. omega (arith, section_wrong s 1 1 0 d f))
    (λ a f g. then_err (section_at s 4 (a.count + 2) a.end) (both s a) d g
    (λ h. omega (arith, section_wrong s 4 (a.count + 2) a.end d h, (section_is s 1 1 0 a f).few))
    (λ b h k. omega (
      arith,
      refused (eqb b.end (length s)) (a.count + b.count + 3) (script a b) d k,
      (section_is s 1 1 0 a f).few,
      (section_is s 4 (a.count + 2) a.end b h).few,
    )))
