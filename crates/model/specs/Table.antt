-- 01, "Numbers of refusal": the table as 01 prints it, line by line over all steps. "The lowest number that applies is given, and none is
-- given otherwise.": a line that a lower one always goes before is left out, 4 of a who above 8 and 6 of a code that is unknown.
use Rattle.std.specs.Prelude.{Bool, not, List, [], ◌∷◌, ℕ, eqb, ltb, leb}
use Rattle.model.specs.declared.Row.{Row}
use Rattle.model.specs.declared.Control.{Control}
use Rattle.model.specs.Choice.{◌and◌, any, Refusal, ◌if◌}
use Rattle.model.specs.Arena.{cells, cells_at, payload_at, lowest_run}
use Rattle.model.specs.Rows.{busy, hold}
use Rattle.model.specs.State.{stage_of, in_hand, entry, State}
use Rattle.model.specs.Steps.{Step, Name, ADMIT, RETIRE, BEGIN, ADVANCE, ATTACH, DETACH, OPEN, DROP, READ, WRITE, GO, REST, UNKNOWN}
use Rattle.model.specs.Steps.{NOBODY, own_row}

-- 01's code of each step; no code is 18 or 19
abbrev pub code_of : Name → ℕ
code_of ADMIT = 1
code_of RETIRE = 2
code_of BEGIN = 3
code_of ADVANCE = 4
code_of ATTACH = 10
code_of DETACH = 11
code_of OPEN = 12
code_of DROP = 13
code_of READ = 14
code_of WRITE = 15
code_of GO = 16
code_of REST = 17
code_of UNKNOWN = 18
code_of NOBODY = 19

-- the step is one of these
abbrev among : List Name → Name → Bool
among l n = any (λ m. eqb (code_of n) (code_of m)) l

module _ (s : State) (t : Step) where
  abbrev c : Control
  c = s.control

  abbrev row : Row
  row = own_row s t

  -- the entry of meter a, and the cell that hold a has
  abbrev here : ℕ
  here = entry c.dir t.a

  abbrev held : ℕ
  held = hold row t.a

  abbrev moving : Bool
  moving = in_hand (stage_of c.mv.stage)

  abbrev holds : Row → Bool
  holds r = any (eqb here) r.holds

  -- lines 3 to 15; the meter is number a, the kind b, the hold a or, of OPEN, b, and the word b. (Lines 1 and 2
  -- are of the calls: Steps, `call_refusals`.)
  abbrev pub table : Name → List Refusal
  table n =
      3 if among (NOBODY ∷ []) n
      ∷ 4 if among (UNKNOWN ∷ []) n
      ∷ 5 if (among (ADMIT ∷ RETIRE ∷ BEGIN ∷ OPEN ∷ []) n and ltb 255 t.a)
      ∷ 5 if (among (ADMIT ∷ OPEN ∷ []) n and ltb 3 t.b)
      ∷ 5 if (among (DROP ∷ READ ∷ WRITE ∷ []) n and ltb 3 t.a)
      ∷ 6 if (among (DETACH ∷ OPEN ∷ DROP ∷ READ ∷ WRITE ∷ GO ∷ REST ∷ []) n and not row.attached)
      ∷ 7 if (among (ATTACH ∷ []) n and row.attached)
      ∷ 7 if (among (ADMIT ∷ []) n and not (eqb here 65535))
      ∷ 8 if (among (DETACH ∷ OPEN ∷ DROP ∷ READ ∷ WRITE ∷ REST ∷ []) n and busy row.phase)
      ∷ 8 if (among (RETIRE ∷ BEGIN ∷ []) n and moving)
      ∷ 9 if (among (GO ∷ []) n and not (busy row.phase))
      ∷ 9 if (among (ADVANCE ∷ []) n and not moving)
      ∷ 10 if (among (RETIRE ∷ BEGIN ∷ OPEN ∷ []) n and eqb here 65535)
      ∷ 10 if (among (READ ∷ WRITE ∷ DROP ∷ []) n and eqb held 65535)
      ∷ 11 if (among (RETIRE ∷ []) n and any holds s.table)
      ∷ 12 if (among (ADMIT ∷ []) n and eqb (lowest_run c.map (cells t.b)) 65535)
      ∷ 13 if (among (BEGIN ∷ []) n and leb here (lowest_run c.map (cells_at s.arena here)))
      ∷ 14 if (among (READ ∷ WRITE ∷ []) n and leb (payload_at s.arena held) t.b)
      ∷ 15 if (among (BEGIN ∷ []) n and eqb c.begun 4294967295)
      ∷ []
