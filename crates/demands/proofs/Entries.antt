-- A record's part of the invariant when words of the arena change: carried where its own words stay, and when a header is stored.
-- Assumes nothing.
use mathlib.Core.Path.{◌≡◌, sym, ap, ◌∙◌}
use mathlib.Core.Logic.{◌≢◌, ⊎_elim}
use mathlib.Core.List.{List}
use Prim.Native.Nat.{ℕ, ◌+◌, ◌*◌, ◌<◌}
use native.Mathlib.Omega.{arith}
use lib.ListN.{set}
use Rattle.model.specs.declared.Move.{Move}
use Rattle.model.specs.Arena.{cells, none, place, word, header}
use Rattle.model.specs.State.{entry}
use Rattle.model.proofs.Choice.{same_or_not}
use Rattle.model.proofs.ByKind.{Real, by_kind}
use Rattle.model.proofs.Readings.{HeaderRight}
use Rattle.demands.proofs.Owners.{Owns}
use Rattle.demands.proofs.Words.{put_at, put_else}
use Rattle.demands.proofs.Inv.{EntryOk, Core}

pub carry_entry : {X : Type 0} {v v' : Move} {arena arena' : List ℕ} {val : ℕ → ℕ → ℕ} {kind own own' : ℕ → ℕ} {m c : ℕ}
    → EntryOk X v arena val kind own m c
    → Owns own' m c (cells (kind m)) → HeaderRight v' m c (header arena' c)
    → ((j : ℕ) → 0 < j → j < 8 * cells (kind m) → word arena' c j ≡ word arena c j)
    → EntryOk X v' arena' val kind own' m c
carry_entry {kind = kind} {m = m} E o h same =
    let z : Real (kind m) = by_kind (kind m) E.kinded in
    record {
      kinded = E.kinded;
      range = E.range;
      label = same 1 (omega arith) (omega arith) ∙ E.label;
      owns = o;
      head = h;
      vals = λ x w p. same (2 + w) (omega arith) (omega arith) ∙ E.vals x w p;
    }

-- another account that says the same of this meter
pub same_account : {X : Type 0} {v : Move} {arena : List ℕ} {val val' : ℕ → ℕ → ℕ} {kind kind' own : ℕ → ℕ} {m c : ℕ} → kind' m ≡ kind m
    → val' m ≡ val m
    → EntryOk X v arena val kind own m c → EntryOk X v arena val' kind' own m c
same_account e f E = record {
  kinded = rw e E.kinded;
  range = rw e E.range;
  label = rw e E.label;
  owns = rw e E.owns;
  head = E.head;
  vals = rw (e, f) E.vals;
}

-- the header of meter a's record, at cell c, becomes w
module _ {X : Type 0} {dir map : List ℕ} {v : Move} {arena : List ℕ} {val : ℕ → ℕ → ℕ} {kind own : ℕ → ℕ}
    (C : Core X dir map v arena val kind own)
    (a c : ℕ) (e : entry dir a ≡ c) (here : c < 1024) (w : ℕ) where
  pub old_entry : EntryOk X v arena val kind own a c
  old_entry = rw e at (C.entries a (λ z. omega arith))

  old_real : Real (kind a)
  old_real = by_kind (kind a) old_entry.kinded

  pub stored_head : header (set arena (place c 0) w) c ≡ w
  stored_head = let z = old_real in put_at arena c 0 w (cells (kind a)) C.words8192 old_entry.range (omega arith)

  -- the words of other blocks, and the other words of this one
  pub stored_else : (i d n j : ℕ) → Owns own i d n → j < 8 * n → (a ≡ i → (c ≡ d) × (j ≢ 0))
      → word (set arena (place c 0) w) d j ≡ word arena d j
  stored_else i d n j o b f = let z = old_real in put_else own arena a c (cells (kind a)) 0 w i d n j old_entry.owns o (omega arith) b f

  pub stored_entry : {v' : Move} {own' : ℕ → ℕ} (m : ℕ) → entry dir m ≢ none → Owns own' m (entry dir m) (cells (kind m))
      → (m ≡ a → HeaderRight v' a c w)
      → (m ≢ a → HeaderRight v m (entry dir m) (header arena (entry dir m)) → HeaderRight v' m (entry dir m) (header arena (entry dir m)))
      → EntryOk X v' (set arena (place c 0) w) val kind own' m (entry dir m)
  stored_entry {v'} m n o h keep =
      carry_entry E o (⊎_elim same other (same_or_not m a))
      (λ j p q. stored_else m (entry dir m) (cells (kind m)) j E.owns q (λ z. (at_c (sym z), λ y. omega arith)))
    where
      E : EntryOk X v arena val kind own m (entry dir m)
      E = C.entries m n

      at_c : m ≡ a → c ≡ entry dir m
      at_c z = sym e ∙ ap (entry dir) (sym z)

      same : m ≡ a → HeaderRight v' m (entry dir m) (header (set arena (place c 0) w) (entry dir m))
      same z = rw (z, e, stored_head) (h z)

      other : m ≢ a → HeaderRight v' m (entry dir m) (header (set arena (place c 0) w) (entry dir m))
      other z =
          let k = by_kind (kind m) E.kinded in
          rw (stored_else m (entry dir m) (cells (kind m)) 0 E.owns (omega arith) (λ y. absurd (z (sym y)))) (keep z E.head)
