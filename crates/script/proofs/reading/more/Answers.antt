-- `more`: none stays none; ten times a value and a digit fit 32 bits, or are none.
use Rattle.std.proofs.Common.{arith}
use Rattle.std.proofs.lemmas.Grind.{common_steps}
use Rattle.script.proofs.Numbers.{digit_low, digit_high, capped_small, capped_large}
use Rattle.script.proofs.reading.more.Goals as goal

pub returns-in_err-checked_mul : goal.returns-in_err-checked_mul
returns-in_err-checked_mul c = grind (arith, common_steps, capped_large)

pub overflow_sub-digit : goal.overflow_sub-digit
overflow_sub-digit c = digit_low c.args.digit c.requires

pub returns : goal.returns
returns c = grind (arith, common_steps, digit_low, digit_high, capped_small, capped_large)
