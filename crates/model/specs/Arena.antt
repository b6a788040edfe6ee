-- 01, "Arena, records, parties": the kinds, the words of the arena and of a record, the map of cells.
use Rattle.std.specs.Prelude.{◌≡◌, Bool, true, false, List, [], ◌∷◌, ℕ, zero, suc, ◌+◌, ◌-◌, ◌*◌, ◌/◌, ◌%◌, ◌^◌, ◌<◌, eqb, leb, length, get_or, set, replicate}
use Rattle.model.specs.declared.Lengths.{Lengths}
use Rattle.model.specs.Choice.{◌and◌}

-- "Four record kinds, by a fixed table": a line of it has cells, words, payload words
abbrev pub lengths : ℕ → ℕ → ℕ → Lengths
lengths c w p = record { cells = c; words = w; payload = p }

-- kinds 0 to 3
unfoldable pub kind_table : List Lengths
kind_table = lengths 1 8 6 ∷ lengths 2 16 14 ∷ lengths 4 32 30 ∷ lengths 8 64 62 ∷ []

-- a kind above 3 is none: its lengths are 0
unfoldable pub of_kind : ℕ → Lengths
of_kind k = get_or kind_table k (lengths 0 0 0)

abbrev pub cells : ℕ → ℕ
cells k = (of_kind k).cells

abbrev pub words : ℕ → ℕ
words k = (of_kind k).words

abbrev pub payload : ℕ → ℕ
payload k = (of_kind k).payload

-- "each absent (65535) or a start cell", "each empty (65535) or a cell"; also where a search finds nothing
abbrev pub none : ℕ
none = 65535

-- "cell c starts at word 8c": the place of word w of the record at cell c
abbrev pub start : ℕ → ℕ
start c = 8 * c

abbrev pub place : ℕ → ℕ → ℕ
place c w = start c + w

-- that word; past the arena's end it reads 0
abbrev pub word : List ℕ → ℕ → ℕ → ℕ
word arena c w = get_or arena (place c w) 0

-- "Word 0 of a record is its header, 2 × target cell + flag: the lowest bit says that the record is being copied."
abbrev pub header : List ℕ → ℕ → ℕ
header arena c = word arena c 0

abbrev pub plain : ℕ → ℕ
plain target = 2 * target

abbrev pub flagged : ℕ → ℕ
flagged target = 2 * target + 1

abbrev pub target_of : ℕ → ℕ
target_of h = h / 2

abbrev pub flag_of : ℕ → Bool
flag_of h = eqb (h % 2) 1

-- "Word 1 is the label, 4 × meter + kind."
abbrev pub label : List ℕ → ℕ → ℕ
label arena c = word arena c 1

abbrev pub label_of : ℕ → ℕ → ℕ
label_of meter kind = 4 * meter + kind

abbrev pub meter_of : ℕ → ℕ
meter_of l = l / 4

abbrev pub kind_of : ℕ → ℕ
kind_of l = l % 4

-- the lengths of the record at a cell, "kind read from" its label
abbrev pub cells_at : List ℕ → ℕ → ℕ
cells_at arena c = cells (kind_of (label arena c))

abbrev pub words_at : List ℕ → ℕ → ℕ
words_at arena c = words (kind_of (label arena c))

abbrev pub payload_at : List ℕ → ℕ → ℕ
payload_at arena c = payload (kind_of (label arena c))

-- "The payload follows, numbered from 0."
abbrev pub payload_place : ℕ → ℕ → ℕ
payload_place c w = place c (2 + w)

-- a new record: "Header 2c, label set, payload zero."
abbrev pub new_record : ℕ → ℕ → ℕ → List ℕ
new_record c meter kind = plain c ∷ label_of meter kind ∷ replicate (payload kind) 0

-- words laid over the arena from place i on; what would lie past its end is dropped
unfoldable pub laid : List ℕ → ℕ → List ℕ → List ℕ
laid [] i ws = []
laid (x ∷ arena) zero [] = x ∷ arena
laid (x ∷ arena) zero (w ∷ ws) = w ∷ laid arena zero ws
laid (x ∷ arena) (suc i) ws = x ∷ laid arena i ws

-- "a map with one bit per cell, set when used": sixteen words of 64 bits, what every value of type [u64; 16] is
pub record IsMap (m : List ℕ) : Type 0 where
  pub sixteen : length m ≡ 16
  pub words : (i : ℕ) → get_or m i 0 < 2 ^ 64

-- bit k of a word, and the word with bit k put to b
unfoldable pub bit : ℕ → ℕ → ℕ
bit w k = w / 2 ^ k % 2

unfoldable pub with_bit : ℕ → ℕ → ℕ → ℕ
with_bit w k b = w + b * 2 ^ k - bit w k * 2 ^ k

-- 1 where cell c is used, 0 where it is free: bit c % 64 of word c / 64
unfoldable pub used : List ℕ → ℕ → ℕ
used map c = bit (get_or map (c / 64) 0) (c % 64)

-- the map with cell c put to b, and with the n cells from c on
unfoldable pub put : List ℕ → ℕ → ℕ → List ℕ
put map c b = set map (c / 64) (with_bit (get_or map (c / 64) 0) (c % 64) b)

unfoldable pub put_run : List ℕ → ℕ → ℕ → ℕ → List ℕ
put_run map c zero b = map
put_run map c (suc n) b = put (put_run map c n b) (c + n) b

-- "Fill is the number of used cells": of the first n
unfoldable pub count_used : List ℕ → ℕ → ℕ
count_used map zero = 0
count_used map (suc n) = count_used map n + used map n

unfoldable pub fill : List ℕ → ℕ
fill map = count_used map 1024

-- the n cells from c on are free
unfoldable pub free_cells : List ℕ → ℕ → ℕ → Bool
free_cells map c zero = true
free_cells map c (suc n) = elim (eqb (used map c) 0) [ true ↦ free_cells map (suc c) n | false ↦ false ]

-- a run of n free cells starts at c
unfoldable pub run_at : List ℕ → ℕ → ℕ → Bool
run_at map n c = leb (c + n) 1024 and free_cells map c n

-- "the lowest run of free cells long enough": the first of the k cells from c on at which a run of n starts, or 65535
unfoldable pub lowest_from : List ℕ → ℕ → ℕ → ℕ → ℕ
lowest_from map n c zero = none
lowest_from map n c (suc k) = elim (run_at map n c) [ true ↦ c | false ↦ lowest_from map n (suc c) k ]

unfoldable pub lowest_run : List ℕ → ℕ → ℕ
lowest_run map n = lowest_from map n 0 1024
