-- The words of a block after a store to another block, to another word of it, or after a new record was laid. Assumes nothing.
use mathlib.Core.Path.{◌≡◌, sym, ap, ◌∙◌}
use mathlib.Core.Logic.{◌≢◌}
use mathlib.Core.List.{List}
use Prim.Native.Nat.{ℕ, ◌+◌, ◌*◌, ◌/◌, ◌≤◌, ◌<◌}
use native.Mathlib.Omega.{arith}
use lib.ListN.{length, set}
use lib.Seq.{get_or-set_same, get_or-set_other}
use Rattle.model.specs.Arena.{start, place, word, laid}
use Rattle.model.proofs.Records.{laid_out}
use Rattle.demands.proofs.Owners.{Owns}

pub put_at : (arena : List ℕ) (c k v n : ℕ) → length arena ≡ 8192 → c + n ≤ 1024 → k < 8 * n → word (set arena (place c k) v) c k ≡ v
put_at arena c k v n l h j = get_or-set_same arena (place c k) v 0 (omega arith)

-- owner i's block is at c, and word k of it is stored; owner i''s is at d
pub put_else : (own : ℕ → ℕ) (arena : List ℕ) (i c n k v i' d n' j : ℕ) → Owns own i c n → Owns own i' d n' → k < 8 * n → j < 8 * n'
    → (i ≡ i' → (c ≡ d) × (j ≢ k)) → word (set arena (place c k) v) d j ≡ word arena d j
put_else own arena i c n k v i' d n' j o o' hk hj f =
    get_or-set_other arena (place c k) (place d j) v 0 λ e.
    let cell : c + k / 8 ≡ d + j / 8 = omega arith in
    let p : own (c + k / 8) ≡ i = o (c + k / 8) (omega arith) (omega arith) in
    let q : own (d + j / 8) ≡ i' = o' (d + j / 8) (omega arith) (omega arith) in
    let r : i ≡ i' = sym p ∙ ap own cell ∙ q in
    (f r).1 (omega (arith, (f r).0))

pub laid_else : (own : ℕ → ℕ) (arena : List ℕ) (i c n : ℕ) (ws : List ℕ) (i' d n' j : ℕ) → Owns own i c n → Owns own i' d n'
    → length ws ≡ 8 * n → j < 8 * n' → i ≢ i' → word (laid arena (start c) ws) d j ≡ word arena d j
laid_else own arena i c n ws i' d n' j o o' l hj ne =
    laid_out arena (start c) ws (place d j) λ lo hi.
    ne (sym (o (d + j / 8) (omega arith) (omega arith)) ∙ o' (d + j / 8) (omega arith) (omega arith))
