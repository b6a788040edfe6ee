-- The search for the lowest run: what a hop by trailing zeros passes and where it ends, and that no run starts where the search
-- went by. Assumes nothing.
use mathlib.Core.Path.{◌≡◌, sym, ap, ap₂, ◌∙◌}
use mathlib.Core.List.{List}
use mathlib.Core.Logic.{⊎_elim}
use Prim.Native.Nat.{ℕ, ◌+◌, ◌-◌, ◌*◌, ◌/◌, ◌%◌, ◌^◌, ◌≤◌, ◌<◌}
use native.Mathlib.Omega.{arith}
use lib.ListN.{get_or}
use mathlib.Core.Bool.{Bool, false}
use borrow.Author.Tests.{ne_eqb}
use Rattle.std.specs.Prelude.{Option, None, Some, unwrap_or, ◌==◌, if◌then◌else◌}
use lib.Count.{count_trailing_zeros}
use Rattle.model.specs.Arena.{none, bit, used, lowest_run, IsMap}
use Rattle.model.proofs.Choice.{order}
use Rattle.model.proofs.Bits.{bit_shr, bit_high, zeros_below, zeros_at}
use Rattle.model.proofs.CellMap.{FreeRun, IsLowest, nowhere, found as found_at, lowest_is_lowest, lowest_unique}
use Rattle.cells.specs.declared.Cell.{Cell}
use Rattle.cells.specs.declared.Cell.TheVariants.{Free, Used}
use Rattle.cells.specs.Words.{bit_of, sought, other, Passed, NextCell, found}
use Rattle.cells.proofs.Masks.{sought_one, sought_zero, sought_fits}

-- how far ahead of cell c the first sought cell of its word lies; 64 where the word has none
abbrev pub hop : List ℕ → ℕ → Cell → ℕ
hop m c which = count_trailing_zeros 64 (sought (get_or m (c / 64) 0) which / 2 ^ (c % 64))

module _ (m : List ℕ) (c : ℕ) (which : Cell) (h : IsMap m) where
  -- the cells that the hop passes in the word are of the other kind
  hop_passed : (x : ℕ) → c ≤ x → x < c + hop m c which → x < (c / 64 + 1) * 64 → used m x ≡ bit_of (other which)
  unfolding used
  hop_passed x p q r =
      let w : ℕ = get_or m (c / 64) 0 in
      let e : x / 64 ≡ c / 64 = omega arith in
      let f : c % 64 + (x - c) ≡ x % 64 = omega arith in
      let z : bit (sought w which) (x % 64) ≡ 0 =
      ap (bit (sought w which)) (sym f) ∙ sym (bit_shr (sought w which) (c % 64) (x - c))
      ∙ zeros_below 64 (sought w which / 2 ^ (c % 64)) (x - c) (omega arith) in
      ap (λ (i : ℕ). bit (get_or m i 0) (x % 64)) e ∙ sought_zero w (x % 64) which (h.words (c / 64)) (omega arith) z

  -- where it ends within the 64 bits, it ends in the word
  ends_at : hop m c which < 64 → bit (sought (get_or m (c / 64) 0) which) (c % 64 + hop m c which) ≡ 1
  ends_at p =
      let w : ℕ = get_or m (c / 64) 0 in
      sym (bit_shr (sought w which) (c % 64) (hop m c which)) ∙ zeros_at 64 (sought w which / 2 ^ (c % 64)) p

  pub hop_inside : hop m c which < 64 → c % 64 + hop m c which < 64
  hop_inside p = ⊎_elim (λ q. q) (λ q. absurd (omega (arith, ends_at p, no_bit q))) (order (c % 64 + hop m c which) 64)
    where
      no_bit : 64 ≤ c % 64 + hop m c which → bit (sought (get_or m (c / 64) 0) which) (c % 64 + hop m c which) ≡ 0
      no_bit q =
          bit_high 64 (sought (get_or m (c / 64) 0) which) (c % 64 + hop m c which)
          (sought_fits (get_or m (c / 64) 0) which (h.words (c / 64))) q

  -- at a sought cell
  pub hop_hit : hop m c which < 64 → used m (c + hop m c which) ≡ bit_of which
  unfolding used
  hop_hit p =
      let q : c % 64 + hop m c which < 64 = hop_inside p in
      let e : (c + hop m c which) / 64 ≡ c / 64 = omega arith in
      let f : (c + hop m c which) % 64 ≡ c % 64 + hop m c which = omega arith in
      ap₂ (λ (i k : ℕ). bit (get_or m i 0) k) e f
      ∙ sought_one (get_or m (c / 64) 0) (c % 64 + hop m c which) which (h.words (c / 64)) q (ends_at p)

-- the cells from c on that the hop passes in the word are not sought, if those before c are not
pub further : (m : List ℕ) (from c : ℕ) (which : Cell) (to : ℕ) → IsMap m → Passed m from which c → to ≤ c + hop m c which
    → to ≤ (c / 64 + 1) * 64 → Passed m from which to
further m from c which to h inv p q x u v =
    ⊎_elim (inv x u) (λ (r : c ≤ x). hop_passed m c which h x r (omega arith) (omega arith)) (order x c)

-- what the search knows: no run of n cells starts below c
abbrev pub NoneBelow : List ℕ → ℕ → ℕ → Type 0
NoneBelow m n c = (d : ℕ) → d < c → ¬ FreeRun m n d

-- a used cell is in no free run
used_ends : (m : List ℕ) (n d x : ℕ) → d ≤ x → x < d + n → used m x ≡ 1 → ¬ FreeRun m n d
used_ends m n d x p q e r = omega (arith, r.free x p q)

-- s to e is a stretch of free cells that a used one, or the end of the map, ends
pub record Ends (m : List ℕ) (s e : ℕ) : Type 0 where
  pub low : s ≤ e
  pub high : e ≤ 1024
  pub free : (x : ℕ) → s ≤ x → x < e → used m x ≡ 0
  pub used_there : e < 1024 → used m e ≡ 1

pub ends_at_next : (m : List ℕ) (s : ℕ) (o : Option ℕ) → s ≤ 1024 → NextCell m s Used o → Ends m s (unwrap_or o 1024)
ends_at_next m s None h p = record { low = h; high = omega arith; free = p; used_there = λ q. absurd (omega arith) }
ends_at_next m s (Some e) h p = record { low = p.0; high = omega arith; free = p.2; used_there = λ q. p.3 }

-- nor below the next free cell
none_to_free : (m : List ℕ) (n c s : ℕ) → 0 < n → NoneBelow m n c → Passed m c Free s → NoneBelow m n s
none_to_free m n c s pos below p d h =
    ⊎_elim (below d) (λ (q : c ≤ d). used_ends m n d d (omega arith) (omega arith) (p d q h)) (order d c)

module _ (m : List ℕ) (n c s : ℕ) (o : Option ℕ) (pos : 0 < n) (below : NoneBelow m n c)
    (here : NextCell m c Free (Some s)) (stop : NextCell m s Used o) where
  -- the stretch of free cells from there, where it is long enough
  pub run_here : n ≤ unwrap_or o 1024 - s → IsLowest m n s
  run_here h =
      let e = ends_at_next m s o (omega arith) stop in
      found_at (record { within = omega arith; free = λ x p q. e.free x p (omega arith) }) (none_to_free m n c s pos below here.2)

  -- nor up to the used cell that ends the stretch, where it is too short
  pub none_past : unwrap_or o 1024 - s < n → NoneBelow m n (unwrap_or o 1024 + 1)
  none_past h d p = ⊎_elim (none_to_free m n c s pos below here.2 d) over (order d s)
    where
      over : s ≤ d → ¬ FreeRun m n d
      over q r =
          let e = ends_at_next m s o (omega arith) stop in
          ⊎_elim (λ (u : unwrap_or o 1024 < 1024). used_ends m n d (unwrap_or o 1024) (omega arith) (omega arith) (e.used_there u) r)
          (λ (u : 1024 ≤ unwrap_or o 1024). omega (arith, r.within)) (order (unwrap_or o 1024) 1024)

-- nor anywhere, once no free cell is left
pub none_at_all : (m : List ℕ) (n c : ℕ) → 0 < n → NoneBelow m n c → NextCell m c Free None → IsLowest m n none
none_at_all m n c pos below p = nowhere (λ d r. none_to_free m n c 1024 pos below p d (omega (arith, r.within)) r)

-- whatever is the lowest run is the model's, and the search gives it
found_only : (m : List ℕ) (n r : ℕ) → 0 < n → IsLowest m n r → found r ≡ found (lowest_run m n)
found_only m n r h p = ap found (lowest_unique m n p (lowest_is_lowest m n h))

pub found_there : (m : List ℕ) (n r : ℕ) → 0 < n → r < 1024 → IsLowest m n r → Some r ≡ found (lowest_run m n)
found_there m n r h k p =
    let e : (r == none) ≡ false = ne_eqb r none (λ q. omega arith) in
    ap (λ (b : Bool). if b then None else Some r) (sym e) ∙ found_only m n r h p

pub found_nowhere : (m : List ℕ) (n : ℕ) → 0 < n → IsLowest m n none → None ≡ found (lowest_run m n)
found_nowhere m n h p = found_only m n none h p
