-- How the definitions choose, test, sum and refuse. `eqb`, `ltb` and `leb` of the language's library test =, < and ≤ on numbers.
use Rattle.std.specs.Prelude.{Bool, true, false, List, [], ◌∷◌, ℕ, zero, suc, ◌+◌, eqb}

infix 70 ◌if◌
infixr 35 ◌and◌
infixr 30 ◌or◌
infixr 25 ◌⇒◌
-- the first where the test holds, else the second
abbrev pub pick : {A : Type 0} → Bool → A → A → A
pick true x y = x
pick false x y = y

abbrev pub ◌and◌ : Bool → Bool → Bool
true and q = q
false and q = false

abbrev pub ◌or◌ : Bool → Bool → Bool
true or q = true
false or q = q

-- q is asked only where p holds
abbrev pub ◌⇒◌ : Bool → Bool → Bool
true ⇒ q = q
false ⇒ q = true

-- 1 for what holds, else 0
abbrev pub one : Bool → ℕ
one true = 1
one false = 0

-- f holds of each number below n
unfoldable pub every : ℕ → (ℕ → Bool) → Bool
every zero f = true
every (suc n) f = f n and every n f

-- f holds of each element; of some element
abbrev pub all : {A : Type 0} → (A → Bool) → List A → Bool
all f [] = true
all f (x ∷ l) = f x and all f l

abbrev pub any : {A : Type 0} → (A → Bool) → List A → Bool
any f [] = false
any f (x ∷ l) = f x or any f l

-- P is true of each element
abbrev pub All : {A : Type 0} → (A → Type 0) → List A → Type 0
All P [] = Unit {0}
All P (x ∷ l) = P x × All P l

-- the sum of f over a list
abbrev pub total : {A : Type 0} → (A → ℕ) → List A → ℕ
total f [] = 0
total f (x ∷ l) = f x + total f l

-- a line of a table of refusals: the number, and whether it applies
abbrev pub Refusal : Type 0
Refusal = ℕ × Bool

abbrev pub ◌if◌ : ℕ → Bool → Refusal
n if applies = (n, applies)

-- the first that applies is given; the lines stand in rising order, so it is the lowest
abbrev pub refuse : {A : Type 0} → List Refusal → (ℕ → A) → A → A
refuse [] refused accepted = accepted
refuse (g ∷ l) refused accepted = pick g.1 (refused g.0) (refuse l refused accepted)

-- the number that is given, or 0
abbrev pub given : List Refusal → ℕ
given l = refuse l (λ n. n) 0

-- a line of number n applies
abbrev pub applies : ℕ → List Refusal → Bool
applies n [] = false
applies n (g ∷ l) = (eqb g.0 n and g.1) or applies n l
