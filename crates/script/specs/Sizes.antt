-- Sizes: what the code's types say of the numbers that a run prints.
use Rattle.std.specs.Prelude.{List, [], ◌∷◌, ℕ, ◌≤◌, ◌<◌}
use Rattle.model.specs.Arena.{fill}
use Rattle.model.specs.State.{State}
use Rattle.model.specs.Steps.{Ran}
use Rattle.script.specs.Replay.{all_swaps}

-- slots: an answer below 100, a value of 32 bits
pub data Short : List ℕ → Type 0 where
  none : Short []
  more : {n v : ℕ} {slots : List ℕ} → n < 100 → v < 4294967296 → Short slots → Short (n ∷ v ∷ slots)

-- totals: counts of 32 bits, eight of them for all swaps, and 1,024 cells
pub record Totals (s : State) : Type 0 where
  pub begun : s.control.begun < 4294967296
  pub committed : s.control.committed < 4294967296
  pub aborted : s.control.aborted < 4294967296
  pub swaps : all_swaps s.table < 34359738368
  pub filled : fill s.control.map ≤ 1024

-- a script's two runs, and the totals at their end
pub record Sized (first then : Ran) : Type 0 where
  pub admitted : Short first.slots
  pub stepped : Short then.slots
  pub totals : Totals then.next
