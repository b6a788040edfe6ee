-- Parts behind one another: how long they are, and that laid one after the other they are laid together.
use mathlib.Core.Path.{◌≡◌, refl, sym, ap, ◌∙◌}
use mathlib.Core.List.{List, [], ◌∷◌, ◌++◌, map, append_assoc}
use Prim.Native.Nat.{ℕ, ◌+◌, ◌*◌}
use native.Mathlib.Omega.{arith}
use lib.ListN.{length, length-append}
use Rattle.model.specs.Arena.{laid}
use Rattle.model.proofs.Records.{laid_none, laid_append}
use Rattle.wire.specs.Bytes.{bytes, all_bytes, length_bytes}
use Rattle.wire.proofs.Bytes.{length_all, all_one}
use Rattle.buffer.specs.Buffer.{Part, joined}

-- the bytes of some parts
abbrev pub size : List Part → ℕ
size [] = 0
size (x ∷ l) = x.0 * length x.1 + size l

pub length_joined : (l : List Part) → length (joined l) ≡ size l
unfolding joined
length_joined [] = refl
length_joined (x ∷ l) = length-append (all_bytes x.0 x.1) (joined l) ∙ omega (arith, length_all x.0 x.1, length_joined l)

pub joined_append : (l m : List Part) → joined (l ++ m) ≡ joined l ++ joined m
unfolding joined
joined_append [] m = refl
joined_append (x ∷ l) m =
    ap (λ (r : List ℕ). all_bytes x.0 x.1 ++ r) (joined_append l m) ∙ sym (append_assoc (all_bytes x.0 x.1) (joined l) (joined m))

-- what is laid right behind
pub laid_behind : (b : List ℕ) (at n : ℕ) (xs ys : List ℕ) → length xs ≡ n → laid (laid b at xs) (at + n) ys ≡ laid b at (xs ++ ys)
laid_behind b at n xs ys e = rw (← e) (laid_append b at xs ys)

-- single numbers, put one behind the other
abbrev pub single : ℕ × ℕ → Part
single x = (x.0, x.1 ∷ [])

abbrev pub laid_numbers : List ℕ → ℕ → List (ℕ × ℕ) → List ℕ
laid_numbers b at [] = b
laid_numbers b at (x ∷ l) = laid_numbers (laid b at (bytes x.0 x.1)) (at + x.0) l

pub laid_numbers_lem : (b : List ℕ) (at : ℕ) (l : List (ℕ × ℕ)) → laid_numbers b at l ≡ laid b at (joined (map single l))
unfolding joined
laid_numbers_lem b at [] = sym (laid_none b at)
laid_numbers_lem b at (x ∷ l) =
    laid_numbers_lem (laid b at (bytes x.0 x.1)) (at + x.0) l
    ∙ laid_behind b at x.0 (bytes x.0 x.1) (joined (map single l)) (length_bytes x.0 x.1)
    ∙ ap (λ (y : List ℕ). laid b at (y ++ joined (map single l))) (sym (all_one x.0 x.1))
