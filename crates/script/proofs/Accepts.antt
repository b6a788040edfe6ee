-- The text of any script is accepted: each field, line and section of it is found where it stands, and its numbers are read back.
use mathlib.Core.Path.{◌≡◌, refl, sym, ap, ◌∙◌}
use mathlib.Core.Bool.{false}
use mathlib.Core.List.{List, [], ◌∷◌, ◌++◌, append_assoc, append-nil}
use Prim.Native.Nat.{ℕ, zero, suc, ◌+◌, ◌*◌, ◌≤◌, ◌<◌}
use native.Mathlib.Nat.{suc-mul, zero-mul, mul_comm}
use native.Mathlib.Omega.{arith}
use borrow.Author.Tests.{eq-eqb}
use lib.ListN.{length, get_or, take, drop, length-drop, take-append-drop}
use lib.Seq.{length-take-le, drop-append-add, get_or-drop, get_or-append_seam, drop-drop}
use Rattle.std.specs.Prelude.{Some, Ok}
use Rattle.script.specs.declared.Script.{Script}
use Rattle.script.specs.Numbers.{is_digit, found, number_at}
use Rattle.script.specs.Lines.{field_at, line_at, lines_at, section_at, parse, numbers_at}
use Rattle.script.specs.Printing.{decimal, line1}
use Rattle.script.proofs.Lines.{field_marked, line_ends, line_goes_on, lines_end, lines_go_on, section_whole, numbers_none, numbers_go_on}
use Rattle.script.proofs.Numbers.{in_text}
use Rattle.script.proofs.Decimal.{number_reads}
use Rattle.script.specs.Texts.{line_rest, line_text, lines_text, script_text, Small, none, more, ScriptNumbers}

small_take : (w : ℕ) {l : List ℕ} → Small l → Small (take w l)
small_take zero p = none
small_take (suc w) none = none
small_take (suc w) (more h p) = more h (small_take w p)

small_drop : (w : ℕ) {l : List ℕ} → Small l → Small (drop w l)
small_drop zero p = p
small_drop (suc w) none = none
small_drop (suc w) (more h p) = small_drop w p

-- a field that stands at a place is found there, and what follows it is left
record FieldRead (s : List ℕ) (mark at n : ℕ) (rest : List ℕ) : Type 0 where
  pub next : ℕ
  pub there : field_at s mark at ≡ Some (found n next)
  pub first : (r : ℕ) → numbers_at s (suc r) at ≡ n ∷ numbers_at s r next
  pub left : drop next s ≡ rest
  pub within : next ≤ length s

field_reads : (s : List ℕ) (mark at n : ℕ) (rest : List ℕ) → n ≤ 4294967295 → 0 < mark → is_digit mark ≡ false
    → drop at s ≡ decimal n ++ (mark ∷ rest) → FieldRead s mark at n rest
field_reads s mark at n rest h z m e =
    let d : List ℕ = decimal n in
    let behind : ℕ = at + length d in
    let place : behind + 1 ≡ at + (length d + 1) = omega arith in
    let number : number_at s at ≡ Some (found n behind) = number_reads s at n mark rest h m e in
    let byte : get_or s behind 0 ≡ mark =
    sym (get_or-drop at s (length d) 0) ∙ ap (λ (l : List ℕ). get_or l (length d) 0) e ∙ get_or-append_seam d mark rest 0 in
    record {
      next = behind + 1;
      there = field_marked s mark at n behind number byte;
      first = λ r. numbers_go_on s at r n behind number;
      left = ap (λ (k : ℕ). drop k s) place ∙ sym (drop-drop (length d + 1) at s) ∙ ap (drop (length d + 1)) e
          ∙ drop-append-add d (mark ∷ rest) 1;
      within = omega (arith, in_text s behind (omega (arith, byte)));
    }

space_no_digit : is_digit 32 ≡ false
unfolding is_digit
space_no_digit = refl

lf_no_digit : is_digit 10 ≡ false
unfolding is_digit
lf_no_digit = refl

-- a line
record LineRead (s : List ℕ) (spaces at : ℕ) (l rest : List ℕ) : Type 0 where
  pub value : ℕ
  pub next : ℕ
  pub there : line_at s spaces at ≡ Some (found value next)
  pub first : (r : ℕ) → numbers_at s (suc spaces + r) at ≡ l ++ numbers_at s r next
  pub left : drop next s ≡ rest
  pub within : next ≤ length s

line_reads : (s : List ℕ) (at n : ℕ) (l rest : List ℕ) → n ≤ 4294967295 → Small l → drop at s ≡ line_text (n ∷ l) ++ rest
    → LineRead s (length l) at (n ∷ l) rest
unfolding line_text line_rest
line_reads s at n [] rest h p e =
    let f = field_reads s 10 at n rest h (omega arith) lf_no_digit (e ∙ append_assoc (decimal n) (10 ∷ []) rest) in
    record {
      value = n;
      next = f.next;
      there = line_ends s at 0 refl ∙ f.there;
      first = λ r. ap (λ (k : ℕ). numbers_at s k at) (omega arith) ∙ f.first r;
      left = f.left;
      within = f.within;
    }
line_reads s at n (m ∷ l) rest h (more q p) e =
    let f = field_reads s 32 at n (line_text (m ∷ l) ++ rest) h (omega arith) space_no_digit
    (e ∙ append_assoc (decimal n) (line_rest (m ∷ l)) rest) in
    let g = line_reads s f.next m l rest q p f.left in
    record {
      value = g.value;
      next = g.next;
      there = line_goes_on s at (length l) n f.next f.there ∙ g.there;
      first = λ r. ap (λ (k : ℕ). numbers_at s k at) (omega arith) ∙ f.first (suc (length l) + r) ∙ ap (λ (x : List ℕ). n ∷ x) (g.first r);
      left = g.left;
      within = g.within;
    }

line_of : (s : List ℕ) (spaces at : ℕ) (l rest : List ℕ) → length l ≡ suc spaces → Small l → drop at s ≡ line_text l ++ rest
    → LineRead s spaces at l rest
line_of s spaces at [] rest h p e = absurd (omega arith)
line_of s spaces at (n ∷ l) rest h (more q p) e =
    let k : length l ≡ spaces = omega arith in
    rw k at (line_reads s at n l rest q p e)

-- lines
record LinesRead (s : List ℕ) (count spaces first at : ℕ) (words rest : List ℕ) : Type 0 where
  pub next : ℕ
  pub there : lines_at s count spaces first at ≡ Ok next
  pub numbers : numbers_at s (count * suc spaces) at ≡ words
  pub left : drop next s ≡ rest
  pub within : at ≤ length s → next ≤ length s

no_words : (words : List ℕ) → length words ≡ 0 → [] ≡ words
no_words [] h = refl
no_words (n ∷ l) h = absurd (omega arith)

lines_read : (s : List ℕ) (count spaces first at : ℕ) (words rest : List ℕ) → length words ≡ count * suc spaces → Small words
    → drop at s ≡ lines_text count (suc spaces) words ++ rest → LinesRead s count spaces first at words rest
unfolding lines_text
lines_read s zero spaces first at words rest h p e =
    record {
      next = at;
      there = lines_end s spaces first at 0 refl;
      numbers = ap (λ (k : ℕ). numbers_at s k at) (zero-mul (suc spaces)) ∙ numbers_none s at 0 refl ∙ no_words words (h ∙ zero-mul (suc spaces));
      left = e;
      within = λ i. i;
    }
lines_read s (suc count) spaces first at words rest h p e =
    let w : ℕ = suc spaces in
    let one : List ℕ = take w words in
    let others : List ℕ = drop w words in
    let all : suc count * w ≡ w + count * w = omega (arith, suc-mul count w) in
    let l = line_of s spaces at one (lines_text count w others ++ rest) (length-take-le w words (omega (arith, all))) (small_take w p)
    (e ∙ append_assoc (line_text one) (lines_text count w others) rest) in
    let m = lines_read s count spaces (first + 1) l.next others rest
    (length-drop w words ∙ omega (arith, all)) (small_drop w p) l.left in
    record {
      next = m.next;
      there = lines_go_on s spaces first at count l.value l.next l.there ∙ m.there;
      numbers = ap (λ (k : ℕ). numbers_at s k at) all ∙ l.first (count * w)
          ∙ ap (λ (x : List ℕ). one ++ x) m.numbers ∙ take-append-drop w words;
      left = m.left;
      within = λ i. m.within l.within;
    }

-- a section
record SectionRead (s : List ℕ) (spaces first at count : ℕ) (words rest : List ℕ) : Type 0 where
  pub start : ℕ
  pub end : ℕ
  pub there : section_at s spaces first at ≡ Ok (record { count = count; start = start; end = end })
  pub numbers : numbers_at s (count * suc spaces) start ≡ words
  pub left : drop end s ≡ rest
  pub within : end ≤ length s

section_reads : (s : List ℕ) (spaces first at count : ℕ) (words rest : List ℕ) → count ≤ 4294967295 → length words ≡ count * suc spaces
    → Small words → drop at s ≡ (line1 count ++ lines_text count (suc spaces) words) ++ rest → SectionRead s spaces first at count words rest
unfolding line1
section_reads s spaces first at count words rest c h p e =
    let f = field_reads s 10 at count (lines_text count (suc spaces) words ++ rest) c (omega arith) lf_no_digit (e ∙ simp append_assoc) in
    let l = lines_read s count spaces (first + 1) f.next words rest h p f.left in
    record {
      start = f.next;
      end = l.next;
      there = section_whole s spaces first at count f.next l.next (line_ends s at 0 refl ∙ f.there) l.there;
      numbers = l.numbers;
      left = l.left;
      within = l.within f.within;
    }

-- A whole script: nothing is left behind it.
pub record ScriptRead (s : List ℕ) (admissions : ℕ) (words : List ℕ) (steps : ℕ) (others : List ℕ) : Type 0 where
  pub script : Script
  pub there : parse s ≡ Ok script
  pub admissions_counted : script.admissions.count ≡ admissions
  pub steps_counted : script.steps.count ≡ steps
  pub admission_words : numbers_at s (2 * admissions) script.admissions.start ≡ words
  pub step_words : numbers_at s (5 * steps) script.steps.start ≡ others

both_read : (s : List ℕ) (m : ℕ) (words : List ℕ) (k : ℕ) (others rest : List ℕ) → (a : SectionRead s 1 1 0 m words rest)
    → SectionRead s 4 (m + 2) a.end k others [] → ScriptRead s m words k others
unfolding parse
both_read s m words k others rest a b =
    let ends : b.end ≡ length s = omega (arith, b.within, ap length b.left, length-drop b.end s) in
    record {
      script = record {
        admissions = record { count = m; start = a.start; end = a.end };
        steps = record { count = k; start = b.start; end = b.end };
      };
      there = simp (a.there, b.there, eq-eqb b.end (length s) ends);
      admissions_counted = refl;
      steps_counted = refl;
      admission_words = rw (mul_comm 2 m) a.numbers;
      step_words = rw (mul_comm 5 k) b.numbers;
    }

pub script_reads : (m : ℕ) (words : List ℕ) (k : ℕ) (others : List ℕ) → ScriptNumbers m words k others
    → ScriptRead (script_text m words k others) m words k others
unfolding script_text
script_reads m words k others N =
    let s : List ℕ = script_text m words k others in
    let steps : List ℕ = line1 k ++ lines_text k 5 others in
    let a = section_reads s 1 1 0 m words steps N.few_admissions (omega (arith, N.two_each)) N.small_admissions refl in
    both_read s m words k others steps a
    (section_reads s 4 (m + 2) a.end k others [] N.few_steps (omega (arith, N.five_each)) N.small_steps
    (a.left ∙ sym (append-nil steps)))
