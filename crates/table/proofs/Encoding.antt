-- One row has one encoding: its words mean it, and twelve words that mean a row are that row's. Assumes nothing.
use mathlib.Core.Path.{◌≡◌, refl, sym, ap}
use mathlib.Core.Bool.{Bool, true, false, not}
use mathlib.Core.List.{List, [], ◌∷◌, ◌++◌}
use Prim.Native.Nat.{ℕ, zero, suc, ◌≤◌, ◌<◌}
use native.Mathlib.Omega.{arith}
use lib.Dec.{eqb, leb}
use lib.ListN.{length}
use borrow.Author.Tests.{lt-ltb, le-ltb, leb-true, le-leb, eqb-true, ne_eqb}
use Rattle.model.specs.declared.Access.TheVariants.{Read, Write}
use Rattle.model.specs.declared.Phase.{Phase}
use Rattle.model.specs.declared.Phase.TheVariants.{Resting, Ready, Waiting}
use Rattle.model.specs.declared.Row.{Row}
use Rattle.model.specs.Choice.{one, ◌and◌}
use Rattle.model.specs.Rows.{with_holds}
use Rattle.model.proofs.Choice.{clash, and_parts}
use Rattle.model.proofs.Says.{one_le}
use Rattle.model.proofs.Holds.{four_holds}
use Rattle.table.specs.Words.{five, phase_words, listed, row_words, phase_of, row_in, is_phase, is_row}
use Rattle.table.proofs.Twelve.{twelve}

one_back : (b : Bool) → not (eqb (one b) 0) ≡ b
one_back true = refl
one_back false = refl

one_forth : (x : ℕ) → leb x 1 ≡ true → one (not (eqb x 0)) ≡ x
one_forth zero e = refl
one_forth (suc zero) e = refl
one_forth (suc (suc x)) e = let h : suc (suc x) ≤ 1 = leb-true (suc (suc x)) 1 e in absurd (omega arith)

phase_back : (p : Phase) → phase_of (phase_words p) ≡ p
unfolding phase_of
phase_back Resting = refl
phase_back (Ready c (Read h w)) = refl
phase_back (Ready c (Write h w v)) = refl
phase_back (Waiting c (Read h w)) = refl
phase_back (Waiting c (Write h w v)) = refl

phase_means : (p : Phase) → is_phase (phase_words p) ≡ true
unfolding is_phase
phase_means Resting = refl
phase_means (Ready c (Read h w)) = refl
phase_means (Ready c (Write h w v)) = refl
phase_means (Waiting c (Read h w)) = refl
phase_means (Waiting c (Write h w v)) = refl

phase_forth : (tag c h w v : ℕ) → is_phase (five tag c h w v) ≡ true
    → listed (phase_words (phase_of (five tag c h w v))) ≡ tag ∷ c ∷ h ∷ w ∷ v ∷ []
unfolding is_phase phase_of
phase_forth zero c h w v e =
    let p = and_parts (eqb c 0) (eqb h 0 and eqb w 0 and eqb v 0) e in
    let q = and_parts (eqb h 0) (eqb w 0 and eqb v 0) p.1 in
    let r = and_parts (eqb w 0) (eqb v 0) q.1 in
    rw (eqb-true c 0 p.0, eqb-true h 0 q.0, eqb-true w 0 r.0, eqb-true v 0 r.1)
phase_forth (suc zero) c h w v e = clash false e refl
phase_forth (suc (suc zero)) c h w v e = rw (eqb-true v 0 e)
phase_forth (suc (suc (suc zero))) c h w v e = refl
phase_forth (suc (suc (suc (suc zero)))) c h w v e = rw (eqb-true v 0 e)
phase_forth (suc (suc (suc (suc (suc zero))))) c h w v e = refl
phase_forth (suc (suc (suc (suc (suc (suc n)))))) c h w v e =
    let tag = suc (suc (suc (suc (suc (suc n))))) in
    clash (is_phase (five tag c h w v)) e (simp (ne_eqb tag 0 (λ q. omega arith), lt-ltb 1 tag (omega arith), le-ltb tag 6 (omega arith)))

-- the words of a row mean that row
pub row_first : (x : Row) (t : List ℕ) → length x.holds ≡ 4 → row_in (row_words x ++ t) 0 ≡ x
unfolding row_in
row_first x t e =
    let h : 11 < length (row_words x ++ t) = omega arith in
    rw (lt-ltb _ _ h, one_back x.attached, one_back x.passed, phase_back x.phase)
    (sym (ap (with_holds x) (four_holds x.holds e)))

pub is_row_first : (x : Row) (t : List ℕ) → is_row (row_words x ++ t) 0 ≡ true
unfolding is_row
is_row_first x t =
    let h : 11 < length (row_words x ++ t) = omega arith in
    rw (lt-ltb _ _ h, le-leb _ _ (one_le x.attached), le-leb _ _ (one_le x.passed)) (phase_means x.phase)

-- words that mean a row are the words of that row
pub words_first : (w : ℕ → ℕ) (t : List ℕ) → is_row (twelve w ++ t) 0 ≡ true → row_words (row_in (twelve w ++ t) 0) ≡ twelve w
unfolding is_row row_in
words_first w t e =
    let h : 11 < length (twelve w ++ t) = omega arith in
    let means = is_phase (five (w 7) (w 8) (w 9) (w 10) (w 11)) in
    let p = and_parts (leb (w 0) 1) (leb (w 1) 1 and means) (rw (lt-ltb _ _ h) at e) in
    let q = and_parts (leb (w 1) 1) means p.1 in
    rw (lt-ltb _ _ h, one_forth (w 0) p.0, one_forth (w 1) q.0)
    (ap (λ l. w 0 ∷ w 1 ∷ w 2 ∷ w 3 ∷ w 4 ∷ w 5 ∷ w 6 ∷ l) (phase_forth (w 7) (w 8) (w 9) (w 10) (w 11) q.1))
