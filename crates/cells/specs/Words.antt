-- What the helpers of the map compute on one word, and what a search among the words finds.
use Rattle.std.specs.Prelude.{◌≡◌, Bool, eqb, List, ℕ, ◌-◌, ◌*◌, ◌/◌, ◌%◌, ◌^◌, ◌≤◌, ◌<◌, get_or, set, Option, None, Some, if◌then◌else◌, ◌==◌}
use Rattle.std.specs.Int.Bits.{bit_and, bit_or}
use Rattle.cells.specs.declared.Cell.{Cell}
use Rattle.cells.specs.declared.Cell.TheVariants.{Free, Used}
use Rattle.model.specs.Arena.{none, used}

-- n ones from bit k on: those that lie in the word, and those that run over into the next
unfoldable pub low_mask : ℕ → ℕ → ℕ
low_mask k n = (2 ^ n - 1) * 2 ^ k % 2 ^ 64

unfoldable pub high_mask : ℕ → ℕ → ℕ
high_mask k n = (2 ^ n - 1) / 2 ^ 1 / 2 ^ (63 - k)

-- the bit of a cell: "set when used"
abbrev pub bit_of : Cell → ℕ
bit_of Free = 0
bit_of Used = 1

-- a word with the ones of a mask put to 1, or to 0
abbrev pub masked : ℕ → ℕ → Cell → ℕ
masked w mask Used = bit_or w mask
masked w mask Free = bit_and w ((2 ^ 64 - 1) - mask)

-- a mask put into word w of the map
abbrev pub word_put : List ℕ → ℕ → ℕ → Cell → List ℕ
word_put m w mask to = set m w (masked (get_or m w 0) mask to)

-- no one of a mask lies in word w of the map
abbrev pub free_word : List ℕ → ℕ → ℕ → Bool
free_word m w mask = eqb (bit_and (get_or m w 0) mask) 0

-- the word whose ones are the used cells, or the free ones
abbrev pub sought : ℕ → Cell → ℕ
sought w Used = w
sought w Free = (2 ^ 64 - 1) - w

-- the cells that are not sought
abbrev pub other : Cell → Cell
other Free = Used
other Used = Free

-- no cell that is sought lies from `from` up to `to`
abbrev pub Passed : List ℕ → ℕ → Cell → ℕ → Type 0
Passed map from which to = (x : ℕ) → from ≤ x → x < to → used map x ≡ bit_of (other which)

-- the first cell from `from` on that is used, or free
abbrev pub NextCell : List ℕ → ℕ → Cell → Option ℕ → Type 0
NextCell map from which None = Passed map from which 1024
NextCell map from which (Some r) = (from ≤ r) × (r < 1024) × Passed map from which r × (used map r ≡ bit_of which)

-- what a search gives, where 65535 says that it found nothing
abbrev pub found : ℕ → Option ℕ
found r = if r == none then None else Some r
