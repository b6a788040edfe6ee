-- Lists by place: what stands where after a store. Assumes nothing.
use mathlib.Core.Path.{◌≡◌, refl, subst⁻¹}
use mathlib.Core.Logic.{◌≢◌, ⊎_elim}
use mathlib.Core.List.{List}
use Prim.Native.Nat.{ℕ, ◌<◌}
use lib.ListN.{length, get_or, set}
use lib.Seq.{get_or-set_same, get_or-set_other}
use borrow.Author.Tests.{eq-eqb, ne_eqb}
use Rattle.model.proofs.Choice.{same_or_not}
use Rattle.demands.specs.Log.{update}

module _ {A : Type 0} where
  -- after a store: the new value there, the old one elsewhere
  pub set_cases : (P : ℕ → A → Type 0) (l : List A) (i : ℕ) (a d : A) → i < length l → P i a → ((j : ℕ) → j ≢ i → P j (get_or l j d))
      → (j : ℕ) → P j (get_or (set l i a) j d)
  set_cases P l i a d h new old j =
      ⊎_elim (λ (e : j ≡ i). subst⁻¹ (λ (n : ℕ). P n (get_or (set l i a) n d)) e (subst⁻¹ (P i) (get_or-set_same l i a d h) new))
      (λ (ne : j ≢ i). subst⁻¹ (P j) (get_or-set_other l i j a d ne) (old j ne)) (same_or_not j i)

  -- a store to a list beside a store to a function
  pub set_both : {B : Type 0} (P : A → B → Type 0) (l : List A) (f : ℕ → B) (i : ℕ) (a : A) (b : B) (d : A) → i < length l
      → P a b → ((j : ℕ) → P (get_or l j d) (f j)) → (j : ℕ) → P (get_or (set l i a) j d) (update f i b j)
  set_both P l f i a b d h new old =
      set_cases (λ j x. P x (update f i b j)) l i a d h (rw (eq-eqb i i refl) new) (λ j ne. rw (ne_eqb j i ne) (old j))
