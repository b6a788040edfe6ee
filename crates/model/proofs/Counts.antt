-- A count of 32 bits rises by one where it is below another. Assumes nothing.
use mathlib.Core.Path.{◌≡◌}
use Prim.Native.Nat.{ℕ, suc, ◌^◌, ◌<◌}
use native.Mathlib.Omega.{arith}
use Rattle.model.specs.State.{rise}

pub rise_is : (n b : ℕ) → n < b → b < 2 ^ 32 → rise n ≡ suc n
unfolding rise
rise_is n b p q = omega arith
