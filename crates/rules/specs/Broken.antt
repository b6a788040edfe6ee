-- 01's number of each rule, and of what the audit finds: "0 or the number of the first broken rule".
use Rattle.std.specs.Prelude.{ℕ, Option, Some, None, Result, Ok, Err}
use Rattle.rules.specs.declared.Rule.{Rule}
use Rattle.rules.specs.declared.Rule.TheVariants.{R1, R2, R3, R4, R5, R6, R7, R8}

abbrev pub rule_number : Rule → ℕ
rule_number R1 = 1
rule_number R2 = 2
rule_number R3 = 3
rule_number R4 = 4
rule_number R5 = 5
rule_number R6 = 6
rule_number R7 = 7
rule_number R8 = 8

-- the rules asked in turn: all hold, or one is broken
abbrev pub asked : Result Unit Rule → ℕ
asked (Ok x) = 0
asked (Err rule) = rule_number rule

-- what the audit finds
abbrev pub found : Option Rule → ℕ
found None = 0
found (Some rule) = rule_number rule
