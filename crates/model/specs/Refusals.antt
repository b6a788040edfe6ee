-- 01, "Numbers of refusal", step by step: of the table's lines those that speak of the step, in rising order. That each step is refused just
-- as the table of specs/Table says is proved in proofs/Tabled.
use Rattle.std.specs.Prelude.{Bool, not, List, [], ◌∷◌, ℕ, eqb, ltb, leb}
use Rattle.model.specs.declared.Row.{Row}
use Rattle.model.specs.declared.Control.{Control}
use Rattle.model.specs.Choice.{any, Refusal, ◌if◌}
use Rattle.model.specs.Arena.{cells, none, cells_at, payload_at, lowest_run}
use Rattle.model.specs.Rows.{hold, busy}
use Rattle.model.specs.State.{stage_of, in_hand, entry}

-- 5 "meter above 255, kind above 3 or hold above 3, in a number the step uses"
abbrev pub bad_meter : ℕ → Bool
bad_meter m = ltb 255 m

abbrev pub bad_kind : ℕ → Bool
bad_kind k = ltb 3 k

abbrev pub bad_hold : ℕ → Bool
bad_hold h = ltb 3 h

-- 10 "absent meter", "empty hold"; 7 "present meter"
abbrev pub is_none : ℕ → Bool
is_none c = eqb c none

-- 8, 9 "a move in hand"
abbrev pub moving : Control → Bool
moving c = in_hand (stage_of c.mv.stage)

-- 11 "a record some row holds"
abbrev pub holds_cell : ℕ → Row → Bool
holds_cell c r = any (eqb c) r.holds

-- what each step of the keeper may be refused by. "ADMIT is allowed during a move.": no 8
abbrev pub admit_refusals : Control → ℕ → ℕ → List Refusal
admit_refusals c meter kind =
    5 if bad_meter meter ∷ 5 if bad_kind kind ∷ 7 if not (is_none (entry c.dir meter))
    ∷ 12 if is_none (lowest_run c.map (cells kind)) ∷ []

abbrev pub retire_refusals : Control → List Row → ℕ → List Refusal
retire_refusals c table meter =
    5 if bad_meter meter ∷ 8 if moving c ∷ 10 if is_none (entry c.dir meter) ∷ 11 if any (holds_cell (entry c.dir meter)) table ∷ []

abbrev pub begin_refusals : Control → List ℕ → ℕ → List Refusal
begin_refusals c arena meter =
    5 if bad_meter meter ∷ 8 if moving c ∷ 10 if is_none (entry c.dir meter)
    ∷ 13 if leb (entry c.dir meter) (lowest_run c.map (cells_at arena (entry c.dir meter))) ∷ 15 if eqb c.begun 4294967295 ∷ []

abbrev pub advance_refusals : Control → List Refusal
advance_refusals c = 9 if not (moving c) ∷ []

-- what each step of a client may be refused by. ATTACH: "and code is not 10", so no 6
abbrev pub attach_refusals : Row → List Refusal
attach_refusals r = 7 if r.attached ∷ []

-- DETACH and REST
abbrev pub rest_refusals : Row → List Refusal
rest_refusals r = 6 if not r.attached ∷ 8 if busy r.phase ∷ []

abbrev pub open_refusals : Row → ℕ → ℕ → ℕ → List Refusal
open_refusals r entry meter h =
    5 if bad_meter meter ∷ 5 if bad_hold h ∷ 6 if not r.attached ∷ 8 if busy r.phase ∷ 10 if is_none entry ∷ []

abbrev pub drop_refusals : Row → ℕ → List Refusal
drop_refusals r h =
    5 if bad_hold h ∷ 6 if not r.attached ∷ 8 if busy r.phase ∷ 10 if is_none (hold r h) ∷ []

-- READ and WRITE
abbrev pub access_refusals : List ℕ → Row → ℕ → ℕ → List Refusal
access_refusals arena r h w =
    5 if bad_hold h ∷ 6 if not r.attached ∷ 8 if busy r.phase ∷ 10 if is_none (hold r h)
    ∷ 14 if leb (payload_at arena (hold r h)) w ∷ []

abbrev pub go_refusals : Row → List Refusal
go_refusals r = 6 if not r.attached ∷ 9 if not (busy r.phase) ∷ []
