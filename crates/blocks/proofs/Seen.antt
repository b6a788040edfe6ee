-- What the walk over the directory has seen decides R3: while no block meets another, the map built so far has at each cell the sum of
-- the blocks that cover it; the map's words then decide the rest.
use mathlib.Core.Path.{◌≡◌, refl, sym, ap, ◌∙◌}
use mathlib.Core.Bool.{Bool, true, false}
use mathlib.Core.List.{List}
use mathlib.Core.Logic.{◌⊎◌, inl, inr, ⊎_elim}
use Prim.Native.Nat.{ℕ, ◌+◌, ◌%◌, ◌<◌, ◌≤◌}
use native.Mathlib.Numerals.{add-one}
use native.Mathlib.Omega.{arith}
use lib.ListN.{length, take, replicate, get_or-eq_default}
use lib.Seq.{take-length}
use Rattle.std.specs.Prelude.{Option, None, Some}
use Rattle.std.specs.Str.{bytes_eq}
use Rattle.std.proofs.lemmas.Slice.Eq.{bytes_eq-Decides}
use Rattle.model.specs.declared.Move.{Move}
use Rattle.model.specs.declared.Stage.{Stage}
use Rattle.model.specs.declared.Stage.TheVariants.{NoMove, FirstBarrier, Copying, SecondBarrier, ThirdBarrier}
use Rattle.model.specs.Choice.{total}
use Rattle.model.specs.Arena.{none, cells_at, bit, used, free_cells, put_run, IsMap}
use Rattle.model.specs.State.{stage_of, entry}
use Rattle.model.specs.Rules.{covers, record_covers, other_covers, blocks_over, R3}
use Rattle.model.proofs.Choice.{order, clash}
use Rattle.model.proofs.Says.{says_as, says_same, refute}
use Rattle.model.proofs.Readings.{says_r3}
use Rattle.model.proofs.Bits.{no_bit}
use Rattle.model.proofs.CellMap.{used_lt, used_run, used_run_other, run_map, fresh_map, fresh_free, free_cells_lem, cells_free, map_ext}
use Rattle.model.proofs.Covers.{covers_in, covers_out}
use Rattle.blocks.specs.Other.{other_start}
use Rattle.blocks.proofs.Covers.{record_covers_lem, total_more, total_part}

-- past the map's end nothing is used
used_past : (m : List ℕ) (x : ℕ) → IsMap m → 1024 ≤ x → used m x ≡ 0
unfolding used
used_past m x h p = ap (λ (w : ℕ). bit w (x % 64)) (get_or-eq_default m 0 (omega (arith, h.sixteen))) ∙ no_bit (x % 64)

-- a block that starts there is free and lays nothing
pub far_free : (m : List ℕ) (c n : ℕ) → IsMap m → 1024 ≤ c → free_cells m c n ≡ true
far_free m c n h p = cells_free m c n (λ x q r. used_past m x h (omega arith))

pub far_laid : (m : List ℕ) (c n : ℕ) → IsMap m → 1024 ≤ c → put_run m c n 1 ≡ m
far_laid m c n h p =
    map_ext (put_run m c n 1) m (run_map m c n 1 h (omega arith)) h (λ x hx. used_run_other m c n 1 x (omega arith) (inl (omega arith)))

-- a block that meets none is added at each cell
laid_at : (seen : List ℕ) (c n x : ℕ) → IsMap seen → x < 1024 → free_cells seen c n ≡ true
    → used (put_run seen c n 1) x ≡ used seen x + covers c n x
laid_at seen c n x h hx f =
    ⊎_elim (λ p. outside (inl p)) (λ p. ⊎_elim (inside p) (λ q. outside (inr q)) (order x (c + n))) (order x c)
  where
    inside : c ≤ x → x < c + n → used (put_run seen c n 1) x ≡ used seen x + covers c n x
    inside p q =
        used_run seen c n 1 x h (omega arith) p q hx ∙ omega (arith, covers_in c n x p q, free_cells_lem seen c n f x p q)

    outside : (x < c) ⊎ (c + n ≤ x) → used (put_run seen c n 1) x ≡ used seen x + covers c n x
    outside o =
        let z : covers c n x ≡ 0 = covers_out c n x (λ p q. ⊎_elim (λ r. omega arith) (λ r. omega arith) o) in
        used_run_other seen c n 1 x (omega arith) o ∙ omega arith

-- a block that does not fit beside those seen breaks the rule
met : (seen map : List ℕ) (c n : ℕ) {over : ℕ → ℕ} → IsMap seen → free_cells seen c n ≡ false
    → ((x : ℕ) → x < 1024 → used seen x + covers c n x ≤ over x) → ((x : ℕ) → x < 1024 → over x ≡ used map x) → ⊥
met seen map c n h f room e =
    clash (free_cells seen c n)
    (cells_free seen c n (λ x p q.
    ⊎_elim (λ (hx : x < 1024). omega (arith, room x hx, e x hx, used_lt map x, covers_in c n x p q)) (used_past seen x h) (order x 1024)))
    f

-- the map of the first i entries' records
pub record Seen (dir arena : List ℕ) (i : ℕ) (seen : List ℕ) : Type 0 where
  pub map : IsMap seen
  pub at : (x : ℕ) → x < 1024 → used seen x ≡ total (record_covers arena x) (take i dir)

pub seen_none : (dir arena : List ℕ) → Seen dir arena 0 (replicate 16 0)
seen_none dir arena = record { map = fresh_map; at = λ x h. fresh_free x }

-- a turn of the walk: c is the entry that it reads
module _ (dir map : List ℕ) (v : Move) (arena seen : List ℕ) (i c : ℕ) (h : i < length dir) (e : c ≡ entry dir i) (s : Seen dir arena i seen) where
  -- one entry more
  pub seen_more : free_cells seen c (cells_at arena c) ≡ true → Seen dir arena (i + 1) (put_run seen c (cells_at arena c) 1)
  seen_more f =
      record {
        map = run_map seen c (cells_at arena c) 1 s.map (omega arith);
        at = λ x hx.
            let add : ℕ → ℕ = record_covers arena x in
            let more : total add (take (i + 1) dir) ≡ total add (take i dir) + add c =
            ap (λ (j : ℕ). total add (take j dir)) (add-one i) ∙ total_more add none dir i h
            ∙ ap (λ (c : ℕ). total add (take i dir) + add c) (sym e) in
            laid_at seen c (cells_at arena c) x s.map hx f ∙ omega (arith, s.at x hx, record_covers_lem arena x c hx);
      }

  -- a record that meets another breaks R3
  pub seen_stops : free_cells seen c (cells_at arena c) ≡ false → R3 dir map v arena ≡ false
  unfolding blocks_over
  seen_stops f =
      refute (R3 dir map v arena) (λ r.
      met seen map c (cells_at arena c) s.map f
      (λ x hx.
      let part = total_part (record_covers arena x) none dir i h in
      omega (arith, s.at x hx, record_covers_lem arena x c hx, rw (sym e) at part))
      ((says_r3 dir map v arena).holds r))

-- what a block of n cells covers, if there is one
abbrev pub block_covers : Option ℕ → ℕ → ℕ → ℕ
block_covers None n x = 0
block_covers (Some c) n x = covers c n x

-- the move's other block covers what the rule says
other_covers_lem : (v : Move) (arena : List ℕ) (g : Stage) (x : ℕ)
    → other_covers g v arena x ≡ block_covers (other_start g v) (cells_at arena v.from) x
other_covers_lem v arena NoMove x = refl
other_covers_lem v arena FirstBarrier x = refl
other_covers_lem v arena Copying x = refl
other_covers_lem v arena SecondBarrier x = refl
other_covers_lem v arena ThirdBarrier x = refl

-- the end of the walk: o is where the move's other block starts
module _ (dir map : List ℕ) (v : Move) (arena seen : List ℕ) (i : ℕ) (hm : IsMap map) (end : i ≡ length dir) (s : Seen dir arena i seen)
    (o : Option ℕ) (eo : o ≡ other_start (stage_of v.stage) v) where
  all_blocks : (x : ℕ) → x < 1024 → used seen x + block_covers o (cells_at arena v.from) x ≡ blocks_over dir v arena x
  unfolding blocks_over
  all_blocks x hx =
      let add : ℕ → ℕ = record_covers arena x in
      let whole : total add (take i dir) ≡ total add dir =
      ap (λ (j : ℕ). total add (take j dir)) end ∙ ap (total add) (take-length dir) in
      let other : other_covers (stage_of v.stage) v arena x ≡ block_covers o (cells_at arena v.from) x =
      other_covers_lem v arena (stage_of v.stage) x ∙ ap (λ (o : Option ℕ). block_covers o (cells_at arena v.from) x) (sym eo) in
      omega (arith, s.at x hx)

  -- a map that is used where blocks lie is the map where R3 holds
  pub map_decides : (built : List ℕ) → IsMap built
      → ((x : ℕ) → x < 1024 → used built x ≡ used seen x + block_covers o (cells_at arena v.from) x)
      → bytes_eq built map ≡ R3 dir map v arena
  map_decides built hb at =
      let same = bytes_eq-Decides built map in
      says_same
      (says_as (λ e x hx. sym (at x hx ∙ all_blocks x hx) ∙ ap (λ (m : List ℕ). used m x) e)
      (λ r. map_ext built map hb hm (λ x hx. at x hx ∙ all_blocks x hx ∙ r x hx)) (record { holds = same.0; test = same.1 }))
      (says_r3 dir map v arena)

-- whether the cells of a block are free, if there is one; the map with it laid
abbrev pub block_free : List ℕ → Option ℕ → ℕ → Bool
block_free seen None n = true
block_free seen (Some c) n = free_cells seen c n

abbrev pub block_laid : List ℕ → Option ℕ → ℕ → List ℕ
block_laid seen None n = seen
block_laid seen (Some c) n = put_run seen c n 1

module _ (dir map : List ℕ) (v : Move) (arena seen : List ℕ) (i : ℕ) (hm : IsMap map) (end : i ≡ length dir) (s : Seen dir arena i seen) where
  -- the move's other block, laid last: the words of the map built and of the map decide the rest
  pub words_decide : (o : Option ℕ) → o ≡ other_start (stage_of v.stage) v → block_free seen o (cells_at arena v.from) ≡ true
      → bytes_eq (block_laid seen o (cells_at arena v.from)) map ≡ R3 dir map v arena
  words_decide None e f = map_decides dir map v arena seen i hm end s None e seen s.map (λ x hx. omega arith)
  words_decide (Some c) e f =
      map_decides dir map v arena seen i hm end s (Some c) e (put_run seen c (cells_at arena v.from) 1)
      (run_map seen c (cells_at arena v.from) 1 s.map (omega arith)) (λ x hx. laid_at seen c (cells_at arena v.from) x s.map hx f)

  pub end_none : None ≡ other_start (stage_of v.stage) v → bytes_eq seen map ≡ R3 dir map v arena
  end_none e = words_decide None e refl

  module _ (c : ℕ) (e : Some c ≡ other_start (stage_of v.stage) v) where
    pub end_same : free_cells seen c (cells_at arena v.from) ≡ true
        → bytes_eq (put_run seen c (cells_at arena v.from) 1) map ≡ R3 dir map v arena
    end_same f = words_decide (Some c) e f

    pub end_stops : free_cells seen c (cells_at arena v.from) ≡ false → R3 dir map v arena ≡ false
    end_stops f =
        refute (R3 dir map v arena) (λ r.
        met seen map c (cells_at arena v.from) s.map f (λ x hx. omega (arith, all_blocks dir map v arena seen i hm end s (Some c) e x hx))
        ((says_r3 dir map v arena).holds r))
