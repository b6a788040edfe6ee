-- A number is read exactly where its decimal form stands: from the text to the number, and back.
use mathlib.Core.Path.{◌≡◌, refl, sym, ap, ◌∙◌}
use mathlib.Core.Bool.{Bool, true, false, not}
use mathlib.Core.Logic.{⊎_elim}
use mathlib.Core.List.{List, [], ◌∷◌, ◌++◌, append_assoc, append-nil}
use Prim.Native.Nat.{ℕ, zero, suc, ◌+◌, ◌-◌, ◌*◌, ◌/◌, ◌%◌, ◌≤◌, ◌<◌}
use native.Mathlib.Omega.{arith}
use borrow.Author.Tests.{eq-eqb, ne_eqb, le-leb, le-ltb}
use lib.Dec.{eqb, ltb}
use lib.ListN.{length, get_or, drop, length-append, get_or-append}
use lib.Seq.{get_or-drop, drop-drop}
use Rattle.model.specs.Choice.{◌or◌}
use Rattle.model.proofs.Choice.{clash, and_no, order}
use Rattle.std.specs.Prelude.{Some}
use Rattle.script.specs.Numbers.{Found, is_digit, digits, value_from, proper, found, number_at}
use Rattle.script.specs.Printing.{decimal}
use Rattle.script.proofs.Numbers.{digit_low, digit_high, digits_front, digits_stop, digits_empty, some_digits, picked}
use Rattle.script.proofs.Pages.{decimal_small, decimal_more}

-- bytes that are all digits
data Digits : List ℕ → Type 0 where
  none : Digits []
  more : {b : ℕ} {l : List ℕ} → is_digit b ≡ true → Digits l → Digits (b ∷ l)

-- digits behind those of a number that is not 0 make the number that they write
digits_behind : (v : ℕ) {l : List ℕ} → 0 < v → Digits l → decimal (value_from v l) ≡ decimal v ++ l
unfolding value_from
digits_behind v h none = sym (append-nil (decimal v))
digits_behind v h (more {b = b} {l = l} d ds) =
    let low = digit_low b d in
    let high = digit_high b d in
    let tenth : (v * 10 + (b - 48)) / 10 ≡ v = omega arith in
    let last : (v * 10 + (b - 48)) % 10 + 48 ≡ b = omega arith in
    let next : decimal (v * 10 + (b - 48)) ≡ decimal v ++ (b ∷ []) = rw (decimal_more (v * 10 + (b - 48)) (omega arith), tenth, last) in
    digits_behind (v * 10 + (b - 48)) (omega arith) ds ∙ ap (λ (x : List ℕ). x ++ l) next
    ∙ append_assoc (decimal v) (b ∷ []) l

-- digits of the front of a text are digits
front_by : (b : ℕ) (t : List ℕ) (x : Bool) → is_digit b ≡ x → Digits (digits t) → Digits (digits (b ∷ t))
front_by b t true e d = rw (digits_front b t e) (more e d)
front_by b t false e d = rw (digits_stop b t e) none

front_digits : (t : List ℕ) → Digits (digits t)
front_digits [] = rw digits_empty none
front_digits (b ∷ t) = front_by b t (is_digit b) refl (front_digits t)

-- the first of several proper digits is no zero
no_zero : (first count v : ℕ) → proper first count v ≡ true → 1 < count → first ≡ 48 → ⊥
unfolding proper
no_zero first count v e h z =
    clash (proper first count v) e
    (simp (ne_eqb count 0 (λ p. omega arith), ne_eqb count 1 (λ p. omega arith), eq-eqb first 48 z) (and_no (not (ltb 4294967295 v))))

-- proper digits are the decimal form of what they write
proper_decimal : (first : ℕ) {ds : List ℕ} → Digits ds → first ≡ get_or ds 0 0 → proper first (length ds) (value_from 0 ds) ≡ true
    → ds ≡ decimal (value_from 0 ds)
unfolding value_from
proper_decimal first none e p = absurd (omega (arith, some_digits first 0 (value_from 0 []) p))
proper_decimal first (more {b = b} d none) e p =
    sym (decimal_small (0 * 10 + (b - 48)) (omega (arith, digit_high b d)) ∙ ap (λ (x : ℕ). x ∷ []) (omega (arith, digit_low b d)))
proper_decimal first (more {b = b} d (more {b = c} {l = l} f ds)) e p =
    let low = digit_low b d in
    let high = digit_high b d in
    let lead : first ≡ 48 → ⊥ = no_zero first (suc (suc (length l))) (value_from 0 (b ∷ c ∷ l)) p (omega arith) in
    let some : 0 < 0 * 10 + (b - 48) = ⊎_elim (λ q. q) (λ q. absurd (lead (omega arith))) (order 0 (0 * 10 + (b - 48))) in
    sym (digits_behind (0 * 10 + (b - 48)) some (more f ds)
    ∙ ap (λ (x : List ℕ). x ++ (c ∷ l)) (decimal_small (0 * 10 + (b - 48)) (omega arith) ∙ ap (λ (x : ℕ). x ∷ []) (omega arith)))

-- a text is its digits and what follows them
split_by : (b : ℕ) (t : List ℕ) (x : Bool) → is_digit b ≡ x → t ≡ digits t ++ drop (length (digits t)) t
    → b ∷ t ≡ digits (b ∷ t) ++ drop (length (digits (b ∷ t))) (b ∷ t)
split_by b t true e h = rw (digits_front b t e) (ap (λ (l : List ℕ). b ∷ l) h)
split_by b t false e h = rw (digits_stop b t e)

digits_split : (t : List ℕ) → t ≡ digits t ++ drop (length (digits t)) t
digits_split [] = rw digits_empty
digits_split (b ∷ t) = split_by b t (is_digit b) refl (digits_split t)

first_by : (b : ℕ) (t : List ℕ) (x : Bool) → is_digit b ≡ x → 0 < length (digits (b ∷ t)) → b ≡ get_or (digits (b ∷ t)) 0 0
first_by b t true e h = rw (digits_front b t e)
first_by b t false e h = absurd (omega (arith, ap length (digits_stop b t e)))

first_digit : (t : List ℕ) → 0 < length (digits t) → get_or t 0 0 ≡ get_or (digits t) 0 0
first_digit [] h = absurd (omega (arith, ap length digits_empty))
first_digit (b ∷ t) h = first_by b t (is_digit b) refl h

-- where a number is found, its decimal form stands
pub number_stands : (s : List ℕ) (at : ℕ) (n : Found) → number_at s at ≡ Some n → drop at s ≡ decimal n.value ++ drop n.end s
unfolding number_at
number_stands s at n e =
    let ds = digits (drop at s) in
    let p = picked (proper (get_or s at 0) (length ds) (value_from 0 ds)) (found (value_from 0 ds) (at + length ds)) n e in
    let some : 0 < length ds = some_digits (get_or s at 0) (length ds) (value_from 0 ds) p.0 in
    let first : get_or s at 0 ≡ get_or ds 0 0 =
    ap (λ (n : ℕ). get_or s n 0) (omega arith) ∙ sym (get_or-drop at s 0 0) ∙ first_digit (drop at s) some in
    let form : ds ≡ decimal n.value =
    proper_decimal (get_or s at 0) (front_digits (drop at s)) first p.0 ∙ ap (λ (x : Found). decimal x.value) p.1 in
    digits_split (drop at s) ∙ ap (λ (l : List ℕ). l ++ drop (length ds) (drop at s)) form
    ∙ ap (λ (l : List ℕ). decimal n.value ++ l) (drop-drop (length ds) at s ∙ ap (λ (x : Found). drop x.end s) p.1)

-- what the decimal form of a number is: digits that write it, the first no zero unless the number is
record Form (n : ℕ) (l : List ℕ) : Type 0 where
  pub digit : Digits l
  pub writes : value_from 0 l ≡ n
  pub lead : 0 < n → get_or l 0 0 ≡ 48 → ⊥
  pub some : 0 < length l

is_digit_lem : (d : ℕ) → d < 10 → is_digit (d + 48) ≡ true
unfolding is_digit
is_digit_lem d h = simp (le-leb 48 (d + 48) (omega arith), le-leb (d + 48) 57 (omega arith))

digits_join : {a b : List ℕ} → Digits a → Digits b → Digits (a ++ b)
digits_join none q = q
digits_join (more d p) q = more d (digits_join p q)

value_join : (v : ℕ) (a b : List ℕ) → value_from v (a ++ b) ≡ value_from (value_from v a) b
unfolding value_from
value_join v [] b = refl
value_join v (x ∷ a) b = value_join (v * 10 + (x - 48)) a b

one_digit : (n : ℕ) → n < 10 → Form n (decimal n)
unfolding value_from
one_digit n h =
    rw (decimal_small n h)
    (record { digit = more (is_digit_lem n h) none; writes = omega arith; lead = λ p e. omega arith; some = omega arith })

one_more : (n : ℕ) → 10 ≤ n → Form (n / 10) (decimal (n / 10)) → Form n (decimal n)
unfolding value_from
one_more n h f =
    let last : List ℕ = (n % 10 + 48) ∷ [] in
    let w : value_from 0 (decimal (n / 10) ++ last) ≡ n =
    value_join 0 (decimal (n / 10)) last ∙ omega (arith, f.writes) in
    rw (decimal_more n h)
    (record {
      digit = digits_join f.digit (more (is_digit_lem (n % 10) (omega arith)) none);
      writes = w;
      lead = λ p e. f.lead (omega arith) (sym (get_or-append (decimal (n / 10)) last 0 0 f.some) ∙ e);
      some = rw length-append (omega arith);
    })

form_in : (k n : ℕ) → n ≤ k → Form n (decimal n)
form_in zero n h = one_digit n (omega arith)
form_in (suc k) n h = ⊎_elim (λ p. one_digit n p) (λ q. one_more n q (form_in k (n / 10) (omega arith))) (order n 10)

-- digits end at the first byte that is none
digits_end : {l : List ℕ} (mark : ℕ) (rest : List ℕ) → Digits l → is_digit mark ≡ false → digits (l ++ (mark ∷ rest)) ≡ l
digits_end mark rest none e = digits_stop mark rest e
digits_end mark rest (more {b = b} {l = l} d p) e =
    digits_front b (l ++ (mark ∷ rest)) d ∙ ap (λ (x : List ℕ). b ∷ x) (digits_end mark rest p e)

or_true : (x : Bool) → (x or true) ≡ true
or_true true = refl
or_true false = refl

-- a decimal form is proper
zero_proper : proper 48 1 0 ≡ true
unfolding proper
zero_proper = refl

form_proper : (n : ℕ) (l : List ℕ) → n ≤ 4294967295 → 0 < n → Form n l → proper (get_or l 0 0) (length l) n ≡ true
unfolding proper
form_proper n l h p f =
    let s = f.some in
    simp (ne_eqb (length l) 0 (λ e. omega arith), le-ltb 4294967295 n h, ne_eqb (get_or l 0 0) 48 (f.lead p)) (or_true (eqb (length l) 1))

decimal_proper : (n : ℕ) → n ≤ 4294967295 → proper (get_or (decimal n) 0 0) (length (decimal n)) n ≡ true
decimal_proper zero h = rw (decimal_small 0 (omega arith)) zero_proper
decimal_proper (suc n) h = form_proper (suc n) (decimal (suc n)) h (omega arith) (form_in (suc n) (suc n) (omega arith))

-- where a decimal form stands, up to a byte that is no digit, the number is found
pub number_reads : (s : List ℕ) (at n mark : ℕ) (rest : List ℕ) → n ≤ 4294967295 → is_digit mark ≡ false
    → drop at s ≡ decimal n ++ (mark ∷ rest) → number_at s at ≡ Some (found n (at + length (decimal n)))
unfolding number_at
number_reads s at n mark rest h m e =
    let f = form_in n n (omega arith) in
    let ds : digits (drop at s) ≡ decimal n = ap digits e ∙ digits_end mark rest f.digit m in
    let first : get_or s at 0 ≡ get_or (decimal n) 0 0 =
    ap (λ (i : ℕ). get_or s i 0) (omega arith) ∙ sym (get_or-drop at s 0 0) ∙ ap (λ (l : List ℕ). get_or l 0 0) e
    ∙ get_or-append (decimal n) (mark ∷ rest) 0 0 f.some in
    rw (ds, first, f.writes, decimal_proper n h)
