-- Laws of printing: a page written piece by piece, and a number by its last digit.
use mathlib.Core.Path.{◌≡◌, refl, sym, ap, ◌∙◌}
use mathlib.Core.Logic.{⊎_elim}
use mathlib.Core.List.{List, [], ◌∷◌, ◌++◌}
use Prim.Native.Nat.{ℕ, zero, suc, ◌+◌, ◌/◌, ◌%◌, ◌≤◌, ◌<◌}
use native.Mathlib.Omega.{arith}
use borrow.Author.Tests.{lt-ltb, le-ltb}
use lib.ListN.{length, set}
use Rattle.model.proofs.Choice.{order}
use Rattle.script.specs.declared.printing.Page.{Page as Lent}
use Rattle.script.specs.Printing.{decimal_in, decimal, Page, page, put, written}
use Rattle.script.specs.Pages.{seen, Writes}

pub put_room : (bytes : List ℕ) (at b : ℕ) → at < length bytes → put (page bytes at) b ≡ page (set bytes at b) (at + 1)
unfolding put
put_room bytes at b h = simp (lt-ltb at (length bytes) h)

pub put_full : (bytes : List ℕ) (at b : ℕ) → length bytes ≤ at → put (page bytes at) b ≡ page bytes at
unfolding put
put_full bytes at b h = simp (le-ltb at (length bytes) h)

pub written_append : (p : Page) (a b : List ℕ) → written p (a ++ b) ≡ written (written p a) b
unfolding written
written_append p [] b = refl
written_append p (x ∷ a) b = written_append (put p x) a b

-- what is written one behind the other is written
pub writes_then : {p q r : Lent} {a b : List ℕ} → Writes p q a → Writes q r b → Writes p r (a ++ b)
writes_then {p} {q} {r} {a} {b} h k =
    record {
      same_reference = k.same_reference ∙ h.same_reference;
      page = k.page ∙ ap (λ (x : Page). written x b) h.page ∙ sym (written_append (seen p) a b);
    }

pub writes_none : (p : Lent) → Writes p p []
unfolding written
writes_none p = record { same_reference = refl; page = refl }

pub written_one : (p : Page) (b : ℕ) → written p (b ∷ []) ≡ put p b
unfolding written
written_one p b = refl

-- one byte, where there is room for it, and where there is none
pub writes_room : (p q : Lent) (b : ℕ) → p.at < length p.out.now → q.out.ghost_name ≡ p.out.ghost_name → q.out.now ≡ set p.out.now p.at b
    → q.at ≡ p.at + 1 → Writes p q (b ∷ [])
writes_room p q b h e f g =
    record { same_reference = e; page = rw (written_one (seen p) b, put_room p.out.now p.at b h, f, g) }

pub writes_full : (p : Lent) (b : ℕ) → length p.out.now ≤ p.at → Writes p p (b ∷ [])
writes_full p b h = record { same_reference = refl; page = rw (written_one (seen p) b, put_full p.out.now p.at b h) }

-- one byte, by its value
pub writes_byte : {p q : Lent} {x y : ℕ} → x ≡ y → Writes p q (x ∷ []) → Writes p q (y ∷ [])
writes_byte e w = rw e at w

-- A number below ten is one digit; any other its tenth's digits and its last.
last_digit : (k n : ℕ) → n < 10 → decimal_in k n ≡ (n + 48) ∷ []
unfolding decimal_in
last_digit zero n h = refl
last_digit (suc k) n h = rw (lt-ltb n 10 h, decimal_in)

first_digits : (k n : ℕ) → 10 ≤ n → decimal_in (suc k) n ≡ decimal_in k (n / 10) ++ ((n % 10 + 48) ∷ [])
unfolding decimal_in
first_digits k n h = rw (le-ltb n 10 h, decimal_in)

-- as many digits as a number has suffice
digits_enough : (k j n : ℕ) → n ≤ k → n ≤ j → decimal_in k n ≡ decimal_in j n
digits_enough zero j n p q = last_digit 0 n (omega arith) ∙ sym (last_digit j n (omega arith))
digits_enough (suc k) zero n p q = last_digit (suc k) n (omega arith) ∙ sym (last_digit 0 n (omega arith))
digits_enough (suc k) (suc j) n p q =
    ⊎_elim (λ h. last_digit (suc k) n h ∙ sym (last_digit (suc j) n h))
    (λ h. first_digits k n h ∙ ap (λ (l : List ℕ). l ++ ((n % 10 + 48) ∷ [])) (digits_enough k j (n / 10) (omega arith) (omega arith))
    ∙ sym (first_digits j n h))
    (order n 10)

pub decimal_small : (n : ℕ) → n < 10 → decimal n ≡ (n + 48) ∷ []
unfolding decimal
decimal_small n h = last_digit n n h

pub decimal_more : (n : ℕ) → 10 ≤ n → decimal n ≡ decimal (n / 10) ++ ((n % 10 + 48) ∷ [])
unfolding decimal
decimal_more zero h = absurd (omega arith)
decimal_more (suc n) h =
    first_digits n (suc n) h
    ∙ ap (λ (l : List ℕ). l ++ ((suc n % 10 + 48) ∷ [])) (digits_enough n (suc n / 10) (suc n / 10) (omega arith) (omega arith))
