-- Laws of words laid over the arena: a store before or after them is one word more; what stands at each place; a new record's words, and
-- those of a replica. Assumes nothing.
use mathlib.Core.Path.{◌≡◌, refl, sym, ap, ◌∙◌}
use mathlib.Core.Logic.{◌≢◌}
use mathlib.Core.List.{List, [], ◌∷◌, ◌++◌}
use Prim.Native.Nat.{ℕ, zero, suc, ◌+◌, ◌*◌, ◌≤◌, ◌<◌}
use native.Mathlib.Nat.{zero-add, suc-add, add-suc}
use native.Mathlib.Numerals.{add-one}
use native.Mathlib.Omega.{arith}
use lib.ListN.{length, get_or, set, replicate, length-replicate, replicate-append-replicate}
use borrow.Author.Tests.{ne_eqb}
use Rattle.model.specs.declared.Move.{Move}
use Rattle.model.specs.Arena.{cells, payload, word, new_record, laid}
use Rattle.model.specs.KeeperSteps.{replica_word}
use Rattle.model.proofs.Says.{get_d_fresh}
use Rattle.model.proofs.ByKind.{Real, by_kind}

-- no word laid
pub laid_none : (a : List ℕ) (i : ℕ) → laid a i [] ≡ a
unfolding laid
laid_none [] i = refl
laid_none (x ∷ a) zero = refl
laid_none (x ∷ a) (suc i) = ap (λ (l : List ℕ). x ∷ l) (laid_none a i)

-- the first word is a store before the others are laid
pub laid_first : (a : List ℕ) (i w : ℕ) (ws : List ℕ) → laid a i (w ∷ ws) ≡ laid (set a i w) (suc i) ws
unfolding laid
laid_first [] i w ws = refl
laid_first (x ∷ a) zero w ws = refl
laid_first (x ∷ a) (suc i) w ws = ap (λ (l : List ℕ). x ∷ l) (laid_first a i w ws)

-- the last word is a store after the others are laid
pub laid_last : (a : List ℕ) (i : ℕ) (ws : List ℕ) (w : ℕ) → laid a i (ws ++ (w ∷ [])) ≡ set (laid a i ws) (i + length ws) w
unfolding laid
laid_last [] i ws w = refl
laid_last (x ∷ a) zero [] w = ap (λ (l : List ℕ). w ∷ l) (laid_none a zero)
laid_last (x ∷ a) zero (y ∷ ws) w = rw zero-add (ap (λ (l : List ℕ). y ∷ l) (rw zero-add at (laid_last a zero ws w)))
laid_last (x ∷ a) (suc i) ws w = rw suc-add (ap (λ (l : List ℕ). x ∷ l) (laid_last a i ws w))

-- laid behind one another they are laid together
pub laid_append : (a : List ℕ) (i : ℕ) (xs ys : List ℕ) → laid (laid a i xs) (i + length xs) ys ≡ laid a i (xs ++ ys)
unfolding laid
laid_append [] i xs ys = refl
laid_append (x ∷ a) zero [] ys = refl
laid_append (x ∷ a) zero (y ∷ xs) ys = rw zero-add (ap (λ (l : List ℕ). y ∷ l) (rw zero-add at (laid_append a zero xs ys)))
laid_append (x ∷ a) (suc i) xs ys = rw suc-add (ap (λ (l : List ℕ). x ∷ l) (laid_append a i xs ys))

-- stores at k + j, k + (j + 1), ..: on words written out they compute to the stores that code makes, and they are these words laid
abbrev pub stored : List ℕ → ℕ → ℕ → List ℕ → List ℕ
stored a k j [] = a
stored a k j (w ∷ ws) = stored (set a (k + j) w) k (suc j) ws

pub stored_laid : (a : List ℕ) (k j : ℕ) (ws : List ℕ) → stored a k j ws ≡ laid a (k + j) ws
stored_laid a k j [] = sym (laid_none a (k + j))
stored_laid a k j (w ∷ ws) = stored_laid (set a (k + j) w) k (suc j) ws ∙ rw add-suc (sym (laid_first a (k + j) w ws))

-- the same with the first store at k
pub stored_first : (a : List ℕ) (k w : ℕ) (ws : List ℕ) → stored (set a k w) k 1 ws ≡ laid a k (w ∷ ws)
stored_first a k w ws = stored_laid (set a k w) k 1 ws ∙ rw add-one (sym (laid_first a k w ws))

pub length_laid : (a : List ℕ) (i : ℕ) (ws : List ℕ) → length (laid a i ws) ≡ length a
unfolding laid
length_laid [] i ws = refl
length_laid (x ∷ a) zero [] = refl
length_laid (x ∷ a) zero (w ∷ ws) = ap suc (length_laid a zero ws)
length_laid (x ∷ a) (suc i) ws = ap suc (length_laid a i ws)

-- the same for a run of equal words, as a loop's counter has it
pub laid_run_more : (a : List ℕ) (i n w : ℕ) → laid a i (replicate (n + 1) w) ≡ set (laid a i (replicate n w)) (i + n) w
laid_run_more a i n w =
    rw (← replicate-append-replicate n 1 w) (laid_last a i (replicate n w) w)
    ∙ ap (λ (k : ℕ). set (laid a i (replicate n w)) (i + k) w) (length-replicate n w)

-- over a list of the same length they are all that is left
pub laid_all : (a ws : List ℕ) → length a ≡ length ws → laid a 0 ws ≡ ws
unfolding laid
laid_all [] [] e = refl
laid_all [] (w ∷ ws) e = absurd (omega arith)
laid_all (x ∷ a) [] e = absurd (omega arith)
laid_all (x ∷ a) (w ∷ ws) e = ap (λ (l : List ℕ). w ∷ l) (laid_all a ws (omega arith))

-- place j, where word k of the new words lies
pub laid_in : (arena : List ℕ) (i : ℕ) (ws : List ℕ) (j k : ℕ) → j ≡ i + k → k < length ws → j < length arena
    → get_or (laid arena i ws) j 0 ≡ get_or ws k 0
unfolding laid
laid_in [] i ws j k e p q = absurd (omega arith)
laid_in (x ∷ arena) zero [] j k e p q = absurd (omega arith)
laid_in (x ∷ arena) zero (w ∷ ws) zero zero e p q = refl
laid_in (x ∷ arena) zero (w ∷ ws) zero (suc k) e p q = absurd (omega arith)
laid_in (x ∷ arena) zero (w ∷ ws) (suc j) zero e p q = absurd (omega arith)
laid_in (x ∷ arena) zero (w ∷ ws) (suc j) (suc k) e p q = laid_in arena zero ws j k (omega arith) (omega arith) (omega arith)
laid_in (x ∷ arena) (suc i) ws zero k e p q = absurd (omega arith)
laid_in (x ∷ arena) (suc i) ws (suc j) k e p q = laid_in arena i ws j k (omega arith) p (omega arith)

-- outside the new words nothing changes
pub laid_out : (arena : List ℕ) (i : ℕ) (ws : List ℕ) (j : ℕ) → (i ≤ j → j < i + length ws → ⊥)
    → get_or (laid arena i ws) j 0 ≡ get_or arena j 0
unfolding laid
laid_out [] i ws j n = refl
laid_out (x ∷ arena) zero [] j n = refl
laid_out (x ∷ arena) zero (w ∷ ws) zero n = absurd (n (omega arith) (omega arith))
laid_out (x ∷ arena) zero (w ∷ ws) (suc j) n = laid_out arena zero ws j (λ p q. n (omega arith) (omega arith))
laid_out (x ∷ arena) (suc i) ws zero n = refl
laid_out (x ∷ arena) (suc i) ws (suc j) n = laid_out arena i ws j (λ p q. n (omega arith) (omega arith))

-- a new record is as long as its kind says, and its payload is zero
pub new_length : (c m k : ℕ) → k < 4 → length (new_record c m k) ≡ 8 * cells k
new_length c m k h =
    let z : length {A = ℕ} (replicate (payload k) 0) ≡ payload k = length-replicate (payload k) 0 in
    let r : Real k = by_kind k h in
    omega arith

pub new_zero : (c m k w : ℕ) → get_or (new_record c m k) (2 + w) 0 ≡ 0
new_zero c m k w = let e : 2 + w ≡ suc (suc w) = omega arith in rw e (get_d_fresh (payload k) w 0)

-- every word of the replica but its header is the old block's
pub replica_copies : (arena : List ℕ) (v : Move) → v.copied ≢ 0 → replica_word arena v ≡ word arena v.from v.copied
unfolding replica_word
replica_copies arena v n = rw (ne_eqb v.copied 0 n)
