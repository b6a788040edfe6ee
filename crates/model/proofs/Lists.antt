-- What a chain over a list answers, in the language's own words, is the definitions' test of it. Assumes nothing.
use mathlib.Core.Path.{◌≡◌, refl, ap, ◌∙◌}
use mathlib.Core.Bool.{Bool, true, false, ◌&&◌, ◌||◌}
use mathlib.Core.List.{List, [], ◌∷◌}
use Prim.Native.Nat.{ℕ, zero, suc, ◌+◌, ◌<◌}
use native.Mathlib.Omega.{arith}
use lib.ListN.{length}
use Rattle.std.specs.List.{list_all, list_any, enumerate_from}
use Rattle.std.proofs.lemmas.List.FromFn.{length-enumerate_from, get_or-enumerate_from}
use Rattle.model.specs.Choice.{◌and◌, ◌or◌, every, all, any}
use Rattle.model.specs.Arena.{none}
use Rattle.model.specs.State.{entry}
use Rattle.model.proofs.Says.{at_index, all_every}

module _ {A : Type 0} (f : A → Bool) where
  -- `all` and `any` of a chain
  pub all_listed : (l : List A) → list_all f l ≡ all f l
  all_listed [] = refl
  all_listed (x ∷ l) = by (f x) (all_listed l)
    where
      by : (b : Bool) → list_all f l ≡ all f l → (b && list_all f l) ≡ (b and all f l)
      by true e = e
      by false e = refl

  pub any_listed : (l : List A) → list_any f l ≡ any f l
  any_listed [] = refl
  any_listed (x ∷ l) = by (f x) (any_listed l)
    where
      by : (b : Bool) → list_any f l ≡ any f l → (b || list_any f l) ≡ (b or any f l)
      by true e = refl
      by false e = e

-- what two tests say of each number below n
pub every_same : (f g : ℕ → Bool) (n : ℕ) → ((i : ℕ) → i < n → f i ≡ g i) → every n f ≡ every n g
unfolding every
every_same f g zero h = refl
every_same f g (suc n) h = rw (h n (omega arith), every_same f g n (λ i p. h i (omega arith)))

-- `all` of a chain over each entry of the directory, with its meter
pub all_entries : (f : ℕ → ℕ → Bool) (dir : List ℕ) → length dir ≡ 256
    → list_all (λ (p : ℕ × ℕ). f p.0 p.1) (enumerate_from 0 dir) ≡ every 256 (λ m. f m (entry dir m))
all_entries f dir l =
    all_listed pair pairs
    ∙ all_every pair last pairs
    ∙ ap (λ n. every n (at_index pair pairs last)) (length-enumerate_from 0 dir ∙ l)
    ∙ every_same (at_index pair pairs last) (λ m. f m (entry dir m)) 256 here
  where
    pair : ℕ × ℕ → Bool
    pair p = f p.0 p.1

    pairs : List (ℕ × ℕ)
    pairs = enumerate_from 0 dir

    last : ℕ × ℕ
    last = (0, none)

    here : (m : ℕ) → m < 256 → at_index pair pairs last m ≡ f m (entry dir m)
    here m h =
        let in_dir : m < length dir = omega arith in
        let e : 0 + m ≡ m = omega arith in
        ap pair (get_or-enumerate_from 0 dir m last in_dir) ∙ ap (λ j. f j (entry dir m)) e
