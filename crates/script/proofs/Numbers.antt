-- Laws of digits: one byte more of a text, values above 4294967295 taken as one, and a number by its scan.
use mathlib.Core.Path.{◌≡◌, refl, sym, ap, ◌∙◌}
use mathlib.Core.Bool.{Bool, true, false, not}
use mathlib.Core.Logic.{⊎_elim}
use mathlib.Core.List.{List, [], ◌∷◌}
use Prim.Native.Nat.{ℕ, zero, suc, ◌+◌, ◌-◌, ◌*◌, ◌≤◌, ◌<◌}
use native.Mathlib.Numerals.{add-one}
use native.Mathlib.Omega.{arith}
use borrow.Author.Tests.{leb-true, lt-ltb, le-ltb}
use lib.Dec.{leb, ltb}
use lib.ListN.{length, get_or, drop, drop_of_length-le, length-drop, get_or-eq_default}
use lib.Seq.{drop-cons}
use Rattle.model.specs.Choice.{pick}
use Rattle.model.proofs.Choice.{clash, and_parts, and_no, order}
use Rattle.std.specs.Char.{is_ascii_digit}
use Rattle.std.specs.Prelude.{Option, Some, None}
use Rattle.script.specs.declared.Scanned.{Scanned}
use Rattle.script.specs.Numbers.{Found, is_digit, digits, value_from, plain, proper, found, number_at, capped, more, scanned}

-- only a place within the text holds a byte other than 0
pub in_text : (s : List ℕ) (i : ℕ) → 0 < get_or s i 0 → i < length s
in_text s i h = ⊎_elim (λ p. p) (λ q. absurd (omega (arith, get_or-eq_default s 0 q))) (order i (length s))

pub digit_low : (b : ℕ) → is_digit b ≡ true → 48 ≤ b
unfolding is_digit
digit_low b e = leb-true 48 b (and_parts (leb 48 b) (leb b 57) e).0

pub digit_high : (b : ℕ) → is_digit b ≡ true → b ≤ 57
unfolding is_digit
digit_high b e = leb-true b 57 (and_parts (leb 48 b) (leb b 57) e).1

pub digit_in_text : (s : List ℕ) (i : ℕ) → is_digit (get_or s i 0) ≡ true → i < length s
digit_in_text s i e = in_text s i (omega (arith, digit_low (get_or s i 0) e))

-- the library's test
pub ascii_digit : (b : ℕ) → is_ascii_digit b ≡ is_digit b
unfolding is_digit
ascii_digit b = refl

pub digits_front : (b : ℕ) (t : List ℕ) → is_digit b ≡ true → digits (b ∷ t) ≡ b ∷ digits t
unfolding digits
digits_front b t e = rw (e, digits)

pub digits_stop : (b : ℕ) (t : List ℕ) → is_digit b ≡ false → digits (b ∷ t) ≡ []
unfolding digits
digits_stop b t e = rw (e, digits)

pub digits_empty : digits [] ≡ []
unfolding digits
digits_empty = refl

-- No value is above 4294967295.
pub capped_small : (v : ℕ) → v ≤ 4294967295 → capped v ≡ Some v
unfolding capped
capped_small v h = simp (le-ltb 4294967295 v h)

pub capped_large : (v : ℕ) → 4294967295 < v → capped v ≡ None
unfolding capped
capped_large v h = simp (lt-ltb 4294967295 v h)

capped_none : (v : ℕ) → capped v ≡ None → 4294967295 < v
capped_none v e = ⊎_elim (λ p. p) (λ q. let z : ◌≡◌ {A = Option ℕ} (Some v) None = sym (capped_small v q) ∙ e in cc) (order 4294967295 v)

capped_some : (v w : ℕ) → capped v ≡ Some w → (v ≡ w) × (w ≤ 4294967295)
capped_some v w e =
    ⊎_elim (λ p. let z : ◌≡◌ {A = Option ℕ} None (Some w) = sym (capped_large v p) ∙ e in absurd cc)
    (λ q. let z : ◌≡◌ {A = Option ℕ} (Some v) (Some w) = sym (capped_small v q) ∙ e in let k : v ≡ w = cc in (k, omega arith))
    (order 4294967295 v)

grows : (v : ℕ) (l : List ℕ) → v ≤ value_from v l
unfolding value_from
grows v [] = omega arith
grows v (b ∷ l) = omega (arith, grows (v * 10 + (b - 48)) l)

-- digits behind a value, or behind none
value_on : Option ℕ → List ℕ → Option ℕ
value_on v [] = v
value_on v (b ∷ l) = value_on (more v b) l

none_on : (l : List ℕ) → value_on None l ≡ None
unfolding value_on
none_on [] = refl
none_on (b ∷ l) = none_on l

value_on_lem : (v : ℕ) (l : List ℕ) → value_on (capped v) l ≡ capped (value_from v l)
unfolding value_on value_from
value_on_lem v [] = refl
value_on_lem v (b ∷ l) =
    ⊎_elim (λ p. rw (capped_large v p) (none_on l ∙ sym (capped_large (value_from v (b ∷ l)) (omega (arith, grows v (b ∷ l))))))
    (λ q. rw (capped_small v q) (value_on_lem (v * 10 + (b - 48)) l)) (order 4294967295 v)

abbrev scan_of : Option ℕ → ℕ → Scanned
scan_of v n = record { value = v; count = n }

-- A scan: what it has found so far, and what it finds in what is left.
pub scan_from : Option ℕ → ℕ → List ℕ → Scanned
scan_from v n t = scan_of (value_on v (digits t)) (n + length (digits t))

pub scan_all : (t : List ℕ) → scan_from (Some 0) 0 t ≡ scanned t
unfolding scan_from scanned
scan_all t = rw (← capped_small 0 (omega arith), value_on_lem 0 (digits t)) (ap (λ (n : ℕ). scan_of (capped (value_from 0 (digits t))) n) (omega arith))

module _ (v : Option ℕ) (n : ℕ) (t : List ℕ) (i : ℕ) where
  pub scan_on : i < length t → is_digit (get_or t i 0) ≡ true
      → scan_from v n (drop i t) ≡ scan_from (more v (get_or t i 0)) (n + 1) (drop (i + 1) t)
  unfolding scan_from value_on
  scan_on h e =
      rw (add-one, drop-cons t i 0 h, digits_front (get_or t i 0) (drop (suc i) t) e)
      (ap (scan_of (value_on (more v (get_or t i 0)) (digits (drop (suc i) t)))) (omega arith))

  pub scan_stops : i < length t → is_digit (get_or t i 0) ≡ false → scan_from v n (drop i t) ≡ scan_of v n
  unfolding scan_from value_on
  scan_stops h e = rw (drop-cons t i 0 h, digits_stop (get_or t i 0) (drop (suc i) t) e) (ap (scan_of v) (omega arith))

  pub scan_ends : length t ≤ i → scan_from v n (drop i t) ≡ scan_of v n
  unfolding scan_from value_on
  scan_ends h = rw (drop_of_length-le t {i = i} h, digits_empty) (ap (scan_of v) (omega arith))

-- A number is what its scan says.
not_proper : (first count v : ℕ) → 4294967295 < v → proper first count v ≡ false
unfolding proper
not_proper first count v h = simp (lt-ltb 4294967295 v h)

is_proper : (first count v : ℕ) → v ≤ 4294967295 → proper first count v ≡ plain first count
unfolding proper
is_proper first count v h = simp (le-ltb 4294967295 v h)

none_proper : (first v : ℕ) → proper first 0 v ≡ false
unfolding proper
none_proper first v = and_no (not (ltb 4294967295 v))

pub number_past : (s : List ℕ) (at : ℕ) → length s ≤ at → number_at s at ≡ None
unfolding number_at
number_past s at h = rw (drop_of_length-le s {i = at} h, digits_empty) (simp (none_proper (get_or s at 0) (value_from 0 [])))

number_by : (s : List ℕ) (at v : ℕ) → v ≡ value_from 0 (digits (drop at s)) → v ≤ 4294967295
    → number_at s at ≡ pick (plain (get_or s at 0) (length (digits (drop at s)))) (Some (found v (at + length (digits (drop at s))))) None
unfolding number_at
number_by s at v e h = rw (← e, is_proper (get_or s at 0) (length (digits (drop at s))) v h)

module _ (s : List ℕ) (at : ℕ) (d : Scanned) (e : d ≡ scanned (drop at s)) where
  value_is : capped (value_from 0 (digits (drop at s))) ≡ d.value
  unfolding scanned
  value_is = sym (ap (λ (x : Scanned). x.value) e)

  count_is : length (digits (drop at s)) ≡ d.count
  unfolding scanned
  count_is = sym (ap (λ (x : Scanned). x.count) e)

  pub number_large : d.value ≡ None → number_at s at ≡ None
  unfolding number_at
  number_large p =
      let v : ℕ = value_from 0 (digits (drop at s)) in
      simp (not_proper (get_or s at 0) (length (digits (drop at s))) v (capped_none v (value_is ∙ p)))

  number_scanned : (v : ℕ) → d.value ≡ Some v
      → number_at s at ≡ pick (plain (get_or s at 0) d.count) (Some (found v (at + d.count))) None
  number_scanned v p =
      let w = capped_some (value_from 0 (digits (drop at s))) v (value_is ∙ p) in
      rw (← count_is) (number_by s at v (sym w.0) w.1)

  pub number_plain : (v : ℕ) → d.value ≡ Some v → plain (get_or s at 0) d.count ≡ true → number_at s at ≡ Some (found v (at + d.count))
  number_plain v p h = number_scanned v p ∙ ap (λ (x : Bool). pick x (Some (found v (at + d.count))) None) h

  pub number_not_plain : (v : ℕ) → d.value ≡ Some v → plain (get_or s at 0) d.count ≡ false → number_at s at ≡ None
  number_not_plain v p h = number_scanned v p ∙ ap (λ (x : Bool). pick x (Some (found v (at + d.count))) None) h

-- "to 4294967295"
pub proper_small : (first count v : ℕ) → proper first count v ≡ true → v ≤ 4294967295
proper_small first count v e =
    ⊎_elim (λ p. clash (proper first count v) e (not_proper first count v p)) (λ q. q) (order 4294967295 v)

-- a number has a digit, ends within the text, and is at most 4294967295
few_by : (b : ℕ) (t : List ℕ) (x : Bool) → is_digit b ≡ x → length (digits t) ≤ length t → length (digits (b ∷ t)) ≤ length (b ∷ t)
few_by b t true e h = rw (digits_front b t e) (omega arith)
few_by b t false e h = rw (digits_stop b t e) (omega arith)

few_digits : (t : List ℕ) → length (digits t) ≤ length t
few_digits [] = rw digits_empty (omega arith)
few_digits (b ∷ t) = few_by b t (is_digit b) refl (few_digits t)

pub scan_short : (t : List ℕ) → (scanned t).count ≤ length t
unfolding scanned
scan_short t = few_digits t

pub picked : (x : Bool) (a n : Found) → pick x (Some a) None ≡ Some n → (x ≡ true) × (a ≡ n)
picked true a n e = (refl, cc)
picked false a n e = let z : ◌≡◌ {A = ℕ} 0 1 = cc in absurd (omega arith)

-- digits that are proper are some
pub some_digits : (first count v : ℕ) → proper first count v ≡ true → 0 < count
some_digits first zero v e = clash (proper first 0 v) e (none_proper first v)
some_digits first (suc n) v e = omega arith

pub number_takes : (s : List ℕ) (at v next : ℕ) → number_at s at ≡ Some (found v next)
    → (at < next) × ((next ≤ length s) × (v ≤ 4294967295))
unfolding number_at
number_takes s at v next e =
    let ds = digits (drop at s) in
    let p = picked (proper (get_or s at 0) (length ds) (value_from 0 ds)) (found (value_from 0 ds) (at + length ds)) (found v next) e in
    let some : 0 < length ds = some_digits (get_or s at 0) (length ds) (value_from 0 ds) p.0 in
    let end : at + length ds ≡ next = ap (λ (x : Found). x.end) p.1 in
    let value : value_from 0 ds ≡ v = ap (λ (x : Found). x.value) p.1 in (
      omega arith,
      (
        omega (arith, few_digits (drop at s), length-drop at s),
        omega (arith, proper_small (get_or s at 0) (length ds) (value_from 0 ds) p.0),
      ),
    )
