-- Two rules are defined in other words than 01's: R3 by a sum for each cell, R8 by the moved record's header. Here they are shown to
-- say what 01 says. Assumes nothing.
use mathlib.Core.Path.{◌≡◌, sym, ap, ◌∙◌}
use mathlib.Core.Logic.{◌≢◌, ⊎_elim}
use mathlib.Core.Bool.{true}
use mathlib.Core.List.{List}
use Prim.Native.Nat.{ℕ, ◌+◌, ◌%◌, ◌<◌}
use native.Mathlib.Omega.{arith}
use lib.ListN.{length}
use borrow.Author.Tests.{eqb-true, eq-eqb}
use Rattle.model.specs.declared.Move.{Move}
use Rattle.model.specs.Choice.{total}
use Rattle.model.specs.Arena.{none, header, flag_of, used}
use Rattle.model.specs.State.{entry}
use Rattle.model.specs.Rules.{record_covers, flag_up}
use Rattle.model.proofs.Choice.{same_or_not}
use Rattle.model.proofs.CellMap.{used_lt}
use Rattle.model.proofs.Says.{Says, says_as, Somewhere}
use Rattle.model.proofs.Covers.{Over, total_at, total_two, total_some, total_zero, total_one, record_le, record_in, record_is}
use Rattle.model.proofs.Covers.{record_out, other_over, other_le, blocks_are}
use Rattle.model.proofs.Readings.{Present, CellsRight, MoveRight, HeadersRight, HeaderRight, own_header, flag_header, FlagUp}
use Rattle.model.proofs.Readings.{says_flag, present_lt}

-- R3 "Used cells are exactly those of present records and of the move's other block; none lies in two."
module _ (dir : List ℕ) (v : Move) (arena : List ℕ) (x : ℕ) where
  -- cell x lies in a block
  pub data InBlock : Type 0 where
    in_record : (m : ℕ) → m < length dir → Over arena x (entry dir m) → InBlock
    in_other : other_over v arena x ≡ 1 → InBlock

  pub record CellInWords (u : ℕ) : Type 0 where
    pub used_only : u ≡ 1 → InBlock
    pub used_all : InBlock → u ≡ 1
    pub one_record : (m n : ℕ) → m < length dir → n < length dir → Over arena x (entry dir m) → Over arena x (entry dir n) → m ≡ n
    pub not_both : (m : ℕ) → m < length dir → Over arena x (entry dir m) → other_over v arena x ≢ 1

  abbrev blocks : ℕ
  blocks = total (record_covers arena x) dir + other_over v arena x

  record_on : (m : ℕ) → Over arena x (entry dir m) → record_covers arena x (entry dir m) ≡ 1
  record_on m o = record_in arena x (entry dir m) o

  pub sum_in_words : (u : ℕ) → u < 2 → blocks ≡ u → CellInWords u
  sum_in_words u b e =
      record {
        used_only = λ z. ⊎_elim in_other (records z) (same_or_not (other_over v arena x) 1);
        used_all = all_used;
        one_record = λ m n p q r s.
            ⊎_elim (λ (z : m ≡ n). z)
            (λ (ne : m ≢ n). absurd (omega (arith, total_two (record_covers arena x) none dir m n p q ne, record_on m r, record_on n s)))
            (same_or_not m n);
        not_both = λ m p r z. omega (arith, total_at (record_covers arena x) none dir m p, record_on m r);
      }
    where
      somewhere : Somewhere (λ c. record_covers arena x c ≢ 0) none dir → InBlock
      somewhere k =
          let ne : record_covers arena x (entry dir k.at) ≢ 0 = k.holds in
          in_record k.at k.low (record_is arena x (entry dir k.at) (omega (arith, record_le arena x (entry dir k.at))))

      records : u ≡ 1 → other_over v arena x ≢ 1 → InBlock
      records z ne = somewhere (total_some (record_covers arena x) none dir (λ t. omega (arith, other_le v arena x)))

      all_used : InBlock → u ≡ 1
      all_used (in_record m p r) = omega (arith, total_at (record_covers arena x) none dir m p, record_on m r)
      all_used (in_other z) = omega arith

  pub words_in_sum : (u : ℕ) → u < 2 → CellInWords u → blocks ≡ u
  words_in_sum u b w = ⊎_elim (λ (z : u ≡ 1). covered z (w.used_only z)) free (same_or_not u 1)
    where
      covered : u ≡ 1 → InBlock → blocks ≡ u
      covered z (in_record m p r) =
          let only =
          total_one (record_covers arena x) none dir m p
          (λ j q ne. record_out arena x (entry dir j) (λ o. ne (w.one_record j m q p o r))) in
          let no : other_over v arena x ≢ 1 = w.not_both m p r in
          omega (arith, only, record_on m r, other_le v arena x)
      covered z (in_other e) =
          omega (arith, total_zero (record_covers arena x) none dir (λ j q. record_out arena x (entry dir j) (λ o. w.not_both j q o e)))

      free : u ≢ 1 → blocks ≡ u
      free ne =
          let no : other_over v arena x ≢ 1 = λ e. ne (w.used_all (in_other e)) in
          let none_over =
          total_zero (record_covers arena x) none dir (λ j q. record_out arena x (entry dir j) (λ o. ne (w.used_all (in_record j q o)))) in
          omega (arith, none_over, other_le v arena x)

pub cells_in_words : (dir map : List ℕ) (v : Move) (arena : List ℕ) → CellsRight dir map v arena
    → (x : ℕ) → x < 1024 → CellInWords dir v arena x (used map x)
cells_in_words dir map v arena r3 x h =
    sum_in_words dir v arena x (used map x) (used_lt map x) (sym (blocks_are dir v arena x) ∙ r3 x h)

pub words_in_cells : (dir map : List ℕ) (v : Move) (arena : List ℕ)
    → ((x : ℕ) → x < 1024 → CellInWords dir v arena x (used map x)) → CellsRight dir map v arena
words_in_cells dir map v arena w x h =
    blocks_are dir v arena x ∙ words_in_sum dir v arena x (used map x) (used_lt map x) (w x h)

-- R8 "While a header is flagged": by R2 and R4 the header of some present record is flagged just where the moved record's is
pub record SomeFlagged (dir arena : List ℕ) : Type 0 where
  pub meter : ℕ
  pub low : meter < 256
  pub present : Present dir meter
  pub flag : flag_of (header arena (entry dir meter)) ≡ true

pub says_some_flagged : (dir : List ℕ) (v : Move) (arena : List ℕ) → length dir ≡ 256 → MoveRight dir v arena → HeadersRight dir v arena
    → Says (flag_up v arena) (SomeFlagged dir arena)
says_some_flagged dir v arena l M H = says_as to (λ f. from f (H.entries f.meter f.low f.present)) (says_flag v arena)
  where
    to : FlagUp v arena → SomeFlagged dir arena
    to f =
        let E = M.early f.0 in
        let h : header arena (entry dir v.meter) % 2 ≡ 1 = omega (arith, ap (header arena) E.old, f.1) in
        record {
          meter = v.meter;
          low = present_lt dir l v.meter E.present;
          present = E.present;
          flag = eq-eqb _ _ h;
        }

    from : (f : SomeFlagged dir arena) → HeaderRight v f.meter (entry dir f.meter) (header arena (entry dir f.meter))
        → FlagUp v arena
    from f (own_header e) = absurd (omega (arith, eqb-true (header arena (entry dir f.meter) % 2) 1 f.flag))
    from f (flag_header i n e) =
        let c : entry dir f.meter ≡ v.from = ap (entry dir) n ∙ (M.early i).old in
        (i, ap (header arena) (sym c) ∙ e ∙ omega arith)
