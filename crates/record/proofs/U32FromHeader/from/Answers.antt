-- Below a word shifted by one bit, `or` of the flag is a sum.
use Rattle.std.proofs.Common.{ℕ, ◌≡◌, ◌+◌, ◌*◌, ◌%◌, ◌^◌, Bool, true, false, bit_or, arith}
use native.Mathlib.Nat.{mul_comm}
use lib.Bits.{or_shifted}
use lib.Dec.{lit<}
use mir.Val.{bool_byte}
use Rattle.model.specs.Choice.{one}
use Rattle.record.specs.Words.{packed}
use Rattle.record.proofs.U32FromHeader.from.Goals as goal

doubled : (t : ℕ) → t * 2 % 2 ^ 32 ≡ t % 2 ^ 31 * 2
doubled t = omega arith

flag_added : (t : ℕ) (flag : Bool) → bit_or (t % 2 ^ 31 * 2) (bool_byte flag) ≡ t % 2 ^ 31 * 2 + one flag
flag_added t true = or_shifted (t % 2 ^ 31) 1 1 (lit< tt)
flag_added t false = or_shifted (t % 2 ^ 31) 1 0 (lit< tt)

pub returns : goal.returns
unfolding packed
returns c = simp (mul_comm 2, doubled) (flag_added c.args.header.target c.args.header.flag)
