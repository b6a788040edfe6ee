-- The client table in words, twelve to a row: 0 attached, 1 passed, 2 to 5 the holds, 6 swaps, 7 phase, 8 cell, 9 hold, 10 word, 11 value.
-- A row has one encoding; any other contents mean no row: "Row bytes that mean no row .. break R6".
use Rattle.std.specs.Prelude.{Bool, false, not, List, [], ◌∷◌, ◌++◌, ℕ, zero, suc, ◌+◌, ◌*◌, ◌%◌, eqb, ltb, leb, length, get_or, set, take, drop, Option, Some, None}
use Rattle.model.specs.declared.Access.{Access}
use Rattle.model.specs.declared.Access.TheVariants.{Read, Write}
use Rattle.model.specs.declared.Phase.{Phase}
use Rattle.model.specs.declared.Phase.TheVariants.{Resting, Ready, Waiting}
use Rattle.model.specs.declared.Row.{Row}
use Rattle.model.specs.Choice.{pick, one, ◌and◌, ◌or◌}
use Rattle.model.specs.Arena.{laid}
use Rattle.model.specs.Rows.{access_of, empty_holds, fresh_row}
use Rattle.table.specs.declared.PhaseWords.{PhaseWords}

-- "its phase: resting, ready at a cell, or waiting to swap on a record. The last two carry the access (read or write, hold, word,
-- value), value 0 for a read.": 0 resting, 2 ready to read, 3 to write, 4 waiting to read, 5 to write; unused words are 0
abbrev pub five : ℕ → ℕ → ℕ → ℕ → ℕ → PhaseWords
five tag c h w v = record { tag = tag; cell = c; hold = h; word = w; value = v }

abbrev pub busy_words : ℕ → ℕ → ℕ → Access → PhaseWords
busy_words read write c (Read h w) = five read c h w 0
busy_words read write c (Write h w v) = five write c h w v

abbrev pub phase_words : Phase → PhaseWords
phase_words Resting = five 0 0 0 0 0
phase_words (Ready c x) = busy_words 2 3 c x
phase_words (Waiting c x) = busy_words 4 5 c x

abbrev pub listed : PhaseWords → List ℕ
listed p = p.tag ∷ p.cell ∷ p.hold ∷ p.word ∷ p.value ∷ []

-- "A row has: attached or not; passed or not; four holds, each empty (65535) or a cell; swaps made (32 bits); and its phase"
abbrev pub front_words : Row → List ℕ
front_words r =
    one r.attached ∷ one r.passed
    ∷ get_or r.holds 0 0 ∷ get_or r.holds 1 0 ∷ get_or r.holds 2 0 ∷ get_or r.holds 3 0
    ∷ r.swaps ∷ []

abbrev pub row_words : Row → List ℕ
row_words r = front_words r ++ listed (phase_words r.phase)

unfoldable pub table_words : List Row → List ℕ
table_words [] = []
table_words (r ∷ table) = row_words r ++ table_words table

-- where no row is: unattached and not passed, which breaks R6
abbrev pub no_row : Row
no_row = record { attached = false; passed = false; holds = empty_holds; swaps = 0; phase = Resting }

-- twelve words lie in t from k on
abbrev pub whole : List ℕ → ℕ → Bool
whole t k = ltb (k + 11) (length t)

unfoldable pub phase_of : PhaseWords → Phase
phase_of p =
    pick (ltb p.tag 2) Resting
    (pick (ltb p.tag 4) (Ready p.cell (access_of (eqb (p.tag % 2) 1) p.hold p.word p.value))
    (Waiting p.cell (access_of (eqb (p.tag % 2) 1) p.hold p.word p.value)))

-- the words of a phase in the twelve words from k on
abbrev pub phase_in : List ℕ → ℕ → PhaseWords
phase_in t k = five (get_or t (k + 7) 0) (get_or t (k + 8) 0) (get_or t (k + 9) 0) (get_or t (k + 10) 0) (get_or t (k + 11) 0)

-- the twelve words of row i, where they lie whole in t
unfoldable pub words_at : List ℕ → ℕ → Option (List ℕ)
words_at t i = pick (whole t (12 * i)) (Some (take 12 (drop (12 * i) t))) None

-- the row in the twelve words from k on, not asking whether they mean one
unfoldable pub row_in : List ℕ → ℕ → Row
row_in t k =
    pick (whole t k)
    (record {
      attached = not (eqb (get_or t k 0) 0);
      passed = not (eqb (get_or t (k + 1) 0) 0);
      holds = get_or t (k + 2) 0 ∷ get_or t (k + 3) 0 ∷ get_or t (k + 4) 0 ∷ get_or t (k + 5) 0 ∷ [];
      swaps = get_or t (k + 6) 0;
      phase = phase_of (phase_in t k);
    })
    no_row

-- resting: unused words are 0
abbrev pub no_access : PhaseWords → Bool
no_access p = eqb p.cell 0 and eqb p.hold 0 and eqb p.word 0 and eqb p.value 0

-- the five words of a phase mean one: no other number, unused words 0, "value 0 for a read"
unfoldable pub is_phase : PhaseWords → Bool
is_phase p = pick (eqb p.tag 0) (no_access p) (ltb 1 p.tag and ltb p.tag 6 and (eqb (p.tag % 2) 1 or eqb p.value 0))

-- the twelve words from k on mean a row
unfoldable pub is_row : List ℕ → ℕ → Bool
is_row t k =
    whole t k and leb (get_or t k 0) 1 and leb (get_or t (k + 1) 0) 1
    and is_phase (phase_in t k)

-- row i: what its words mean
unfoldable pub row_at : List ℕ → ℕ → Row
row_at t i = pick (is_row t (12 * i)) (row_in t (12 * i)) no_row

-- f i, f (i + 1), ..: n of them
unfoldable pub list_from : {A : Type 0} → (ℕ → A) → ℕ → ℕ → List A
list_from f i zero = []
list_from f i (suc n) = f i ∷ list_from f (suc i) n

-- "The client table is lent as eight rows, one for each client."; a table of another size has no rows, and "gets 1"
unfoldable pub rows_of : List ℕ → List Row
rows_of t = pick (eqb (length t) 96) (list_from (row_at t) 0 8) []

-- the eight rows as the steps read them
abbrev pub row_read : List ℕ → ℕ → Row
row_read t i = row_in t (12 * i)

abbrev pub rows_read : List ℕ → List Row
rows_read t = list_from (row_read t) 0 8

-- row i becomes r; its phase, its swaps alone; a row that does not lie whole in t is not stored
unfoldable pub put_row : List ℕ → ℕ → Row → List ℕ
put_row t i r = pick (whole t (12 * i)) (laid t (12 * i) (row_words r)) t

unfoldable pub put_phase : List ℕ → ℕ → Phase → List ℕ
put_phase t i p = pick (whole t (12 * i)) (laid t (12 * i + 7) (listed (phase_words p))) t

unfoldable pub put_swaps : List ℕ → ℕ → ℕ → List ℕ
put_swaps t i n = set t (12 * i + 6) n

-- the words after f has changed each of the first n rows
unfoldable pub each_row : (List ℕ → ℕ → List ℕ) → List ℕ → ℕ → List ℕ
each_row f t zero = t
each_row f t (suc n) = f (each_row f t n) n

-- "Clearing marks sets attached rows to not passed and unattached rows to passed."
unfoldable pub clear_mark : List ℕ → ℕ → List ℕ
clear_mark t i = set t (12 * i + 1) (one (eqb (get_or t (12 * i) 0) 0))

-- "Fresh .. leaves eight unattached rows: passed, resting, holds empty, swaps 0."
abbrev pub freshen : List ℕ → ℕ → List ℕ
freshen t i = put_row t i fresh_row
