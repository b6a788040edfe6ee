-- 01, "Arena, records, parties": "The client table is lent as eight rows, one for each client."
use Rattle.std.specs.Prelude.{◌≡◌, Bool, true, false, not, List, [], ◌∷◌, map, ℕ, length, get_or}
use Rattle.model.specs.declared.Access.{Access}
use Rattle.model.specs.declared.Access.TheVariants.{Read, Write}
use Rattle.model.specs.declared.Phase.{Phase}
use Rattle.model.specs.declared.Phase.TheVariants.{Resting, Ready, Waiting}
use Rattle.model.specs.declared.Row.{Row}
use Rattle.model.specs.Choice.{all}
use Rattle.model.specs.Arena.{none}

-- "the access (read or write, hold, word, value), value 0 for a read"
abbrev pub is_write : Access → Bool
is_write (Read h w) = false
is_write (Write h w v) = true

abbrev pub hold_of : Access → ℕ
hold_of (Read h w) = h
hold_of (Write h w v) = h

abbrev pub word_of : Access → ℕ
word_of (Read h w) = w
word_of (Write h w v) = w

abbrev pub access_of : Bool → ℕ → ℕ → ℕ → Access
access_of true h w v = Write h w v
access_of false h w v = Read h w

-- a busy row is one that does not rest
abbrev pub busy : Phase → Bool
busy Resting = false
busy (Ready c x) = true
busy (Waiting c x) = true

-- "four holds, each empty (65535) or a cell"; a hold above 3 is empty
abbrev pub hold : Row → ℕ → ℕ
hold r h = get_or r.holds h none

abbrev pub empty_holds : List ℕ
empty_holds = none ∷ none ∷ none ∷ none ∷ []

-- what every value of type [u32; 4] is
abbrev pub FourHolds : Row → Type 0
FourHolds r = length r.holds ≡ 4

-- "swaps made"
abbrev pub swaps_of : Row → ℕ
swaps_of r = r.swaps

-- the row with one part changed
abbrev pub with_attached : Row → Bool → Row
with_attached r x = record { attached = x; passed = r.passed; holds = r.holds; swaps = r.swaps; phase = r.phase }

abbrev pub with_passed : Row → Bool → Row
with_passed r x = record { attached = r.attached; passed = x; holds = r.holds; swaps = r.swaps; phase = r.phase }

abbrev pub with_holds : Row → List ℕ → Row
with_holds r x = record { attached = r.attached; passed = r.passed; holds = x; swaps = r.swaps; phase = r.phase }

abbrev pub with_swaps : Row → ℕ → Row
with_swaps r x = record { attached = r.attached; passed = r.passed; holds = r.holds; swaps = x; phase = r.phase }

abbrev pub with_phase : Row → Phase → Row
with_phase r x = record { attached = r.attached; passed = r.passed; holds = r.holds; swaps = r.swaps; phase = x }

-- "Fresh .. leaves eight unattached rows: passed, resting, holds empty, swaps 0."
abbrev pub fresh_row : Row
fresh_row = record { attached = false; passed = true; holds = empty_holds; swaps = 0; phase = Resting }

-- "Clearing marks sets attached rows to not passed and unattached rows to passed."
abbrev pub cleared : Row → Row
cleared r = with_passed r (not r.attached)

abbrev pub clear_marks : List Row → List Row
clear_marks table = map cleared table

abbrev pub has_passed : Row → Bool
has_passed r = r.passed

abbrev pub all_passed : List Row → Bool
all_passed table = all has_passed table
