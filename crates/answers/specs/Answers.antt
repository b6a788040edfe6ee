-- The two numbers in which an answer is told, and a refusal as a step has it: its reason, or none.
use Rattle.std.specs.Prelude.{Bool, ℕ, Result, Ok, Err}
use Rattle.model.specs.declared.Answer.{Answer}
use Rattle.model.specs.declared.Reason.{Reason}
use Rattle.model.specs.Choice.{pick}
use Rattle.model.specs.State.{number, value, reason_number}
use Rattle.answers.specs.declared.Told.{Told}

-- 01's number and value of an answer
abbrev pub told_as : Answer → Told
told_as x = record { number = number x; value = value x }

-- refused where the test holds
abbrev pub refused_if : Bool → Reason → Result Unit Reason
refused_if test reason = pick test (Err reason) (Ok tt)

-- the number of the reason, or 0 where nothing refuses
abbrev pub refused_by : {A : Type 0} → Result A Reason → ℕ
refused_by (Ok x) = 0
refused_by (Err reason) = reason_number reason
