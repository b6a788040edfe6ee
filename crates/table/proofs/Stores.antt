-- A part of a list that is written over by a copy of as many words is these words laid. Assumes nothing.
use Rattle.std.proofs.Common.{◌≡◌, refl, ap, ℕ, zero, suc, ◌+◌, ◌≤◌, List, [], ◌∷◌, length, arith}
use borrow.Rule.Slice.PartMut.{put_mid}
use Rattle.model.specs.Arena.{laid}

pub copy_laid : (a : List ℕ) (i n : ℕ) (ws : List ℕ) → i + length ws ≤ length a → n ≡ length ws → put_mid i n a ws ≡ laid a i ws
unfolding laid
copy_laid [] zero zero [] h e = refl
copy_laid [] zero (suc n) [] h e = absurd (omega arith)
copy_laid [] zero n (w ∷ ws) h e = absurd (omega arith)
copy_laid [] (suc i) n ws h e = absurd (omega arith)
copy_laid (x ∷ a) zero zero [] h e = refl
copy_laid (x ∷ a) zero (suc n) [] h e = absurd (omega arith)
copy_laid (x ∷ a) zero zero (w ∷ ws) h e = absurd (omega arith)
copy_laid (x ∷ a) zero (suc n) (w ∷ ws) h e = ap (λ (l : List ℕ). w ∷ l) (copy_laid a zero n ws (omega arith) (omega arith))
copy_laid (x ∷ a) (suc i) n ws h e = ap (λ (l : List ℕ). x ∷ l) (copy_laid a i n ws (omega arith) e)
