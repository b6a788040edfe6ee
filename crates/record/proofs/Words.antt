-- Packing and unpacking are inverse, and a packed header is 01's word. Assumes nothing.
use mathlib.Core.Path.{◌≡◌, refl}
use mathlib.Core.Bool.{Bool, true, false}
use Prim.Native.Nat.{ℕ, zero, suc, ◌+◌, ◌/◌, ◌%◌, ◌^◌, ◌<◌}
use native.Mathlib.Omega.{arith}
use lib.Dec.{eqb}
use Rattle.model.specs.Choice.{one}
use Rattle.model.specs.Arena.{plain, flagged, target_of, flag_of}
use Rattle.record.specs.Words.{unpacked, packed}

-- "2 × target cell + flag"
pub packed_plain : (target : ℕ) → target < 2 ^ 31 → packed target false ≡ plain target
unfolding packed
packed_plain target h = omega arith

pub packed_flagged : (target : ℕ) → target < 2 ^ 31 → packed target true ≡ flagged target
unfolding packed
packed_flagged target h = omega arith

-- what is packed is unpacked again, where the target has its 31 bits
pub unpacked_packed : (target : ℕ) (flag : Bool) → target < 2 ^ 31
    → unpacked (packed target flag) ≡ record { target = target; flag = flag }
unpacked_packed target true h =
    let t : flagged target / 2 ≡ target = omega arith in
    let o : flagged target % 2 ≡ 1 = omega arith in
    rw (packed_flagged target h, t, o)
unpacked_packed target false h =
    let t : plain target / 2 ≡ target = omega arith in
    let o : plain target % 2 ≡ 0 = omega arith in
    rw (packed_plain target h, t, o)

-- what is unpacked is packed again, for every word
pub packed_unpacked : (h : ℕ) → h < 2 ^ 32 → packed (target_of h) (flag_of h) ≡ h
unfolding packed
packed_unpacked h p = by (h % 2) refl (omega arith)
  where
    by : (b : ℕ) → h % 2 ≡ b → b < 2 → plain (target_of h) % 2 ^ 32 + one (eqb (h % 2) 1) ≡ h
    by zero e q = rw e (omega arith)
    by (suc zero) e q = rw e (omega arith)
    by (suc (suc b)) e q = absurd (omega arith)
