-- "One state has one buffer": what the bytes of a state mean is the state, and the bytes of what a buffer means are the buffer.
-- Both by the parts in order: a part read from its own bytes is the part, and the parts read from all bytes are all bytes.
use mathlib.Core.Path.{◌≡◌, refl, sym, ap, ap₂, ◌∙◌}
use mathlib.Core.Bool.{true}
use mathlib.Core.List.{List, [], ◌∷◌, ◌++◌, map, append_assoc, append-nil}
use Prim.Native.Nat.{ℕ, ◌+◌, ◌*◌, ◌≤◌, ◌<◌}
use native.Mathlib.Omega.{arith}
use lib.ListN.{length, get_or, take, drop}
use lib.Seq.{take-add, take_all, drop-drop}
use Rattle.model.specs.declared.Control.{Control}
use Rattle.model.specs.State.{State, state, Sizes}
use Rattle.model.specs.Rules.{first_broken}
use Rattle.model.specs.Choice.{All}
use Rattle.model.proofs.Says.{all_get}
use Rattle.model.proofs.Readings.{says_r6, sound_of}
use Rattle.table.specs.Words.{table_words, is_row, rows_of}
use Rattle.table.proofs.FourHolds.{four_of_all}
use Rattle.table.proofs.Rows.{length_words, rows_of_words, words_of_rows, sound_words}
use Rattle.wire.specs.Bytes.{numbers, all_bytes}
use Rattle.wire.proofs.Bytes.{length_all, length_numbers}
use Rattle.wire.proofs.RoundTrip.{InBytes, IsByte, numbers_skip, numbers_of_all, all_of_numbers, numbers_one}
use Rattle.buffer.specs.Buffer.{Part, joined, control_parts, move_in, control_in, arena_in, table_in, Decoded, state_in, bytes_in, bytes_of}

-- docs/LAYOUT.md: how many bytes a number has, and how many numbers
abbrev Room : Type 0
Room = ℕ × ℕ

abbrev layout : List Room
layout =
    (2, 256) ∷ (8, 16) ∷ (4, 1) ∷ (4, 1) ∷ (2, 1) ∷ (2, 1) ∷ (4, 1) ∷ (4, 1) ∷ (4, 1) ∷ (4, 1) ∷ (4, 8192) ∷ (4, 96) ∷ []

abbrev parts_in : List Room → List ℕ → ℕ → List Part
parts_in [] b at = []
parts_in (x ∷ l) b at = (x.0, numbers x.0 x.1 b at) ∷ parts_in l b (at + x.0 * x.1)

abbrev room_of : Part → Room
room_of x = (x.0, length x.1)

abbrev space : List Room → ℕ
space [] = 0
space (x ∷ l) = x.0 * x.1 + space l

-- a state's parts, and the state that some parts are
abbrev parts_of : State → List Part
parts_of s = control_parts s.control ++ ((4, s.arena) ∷ (4, table_words s.table) ∷ [])

abbrev part : List Part → ℕ → List ℕ
part l i = (get_or l i (0, [])).1

abbrev first : List Part → ℕ → ℕ
first l i = get_or (part l i) 0 0

abbrev state_of : List Part → State
state_of l =
    state
    (record {
      dir = part l 0;
      map = part l 1;
      mv = record { stage = first l 2; meter = first l 3; from = first l 4; target = first l 5; copied = first l 6 };
      begun = first l 7;
      committed = first l 8;
      aborted = first l 9;
    })
    (part l 10)
    (rows_of (part l 11))

state_of_parts : (b : List ℕ) → state_in b ≡ state_of (parts_in layout b 0)
unfolding state_in control_in move_in
state_of_parts b = simp numbers_one

-- what is read out of the bytes is the state that they mean
pub state_decoded : {c : Control} {arena table b : List ℕ} → Decoded c arena table b → state c arena (rows_of table) ≡ state_in b
unfolding state_in
state_decoded d = rw (d.control, d.arena, d.table) refl

-- From a state to bytes and back

parts_skip : (l : List Room) (p q : List ℕ) (at : ℕ) → parts_in l (p ++ q) (length p + at) ≡ parts_in l q at
parts_skip [] p q at = refl
parts_skip (x ∷ l) p q at =
    let e : length p + at + x.0 * x.1 ≡ length p + (at + x.0 * x.1) = omega arith in
    rw e
    (ap₂ (λ (ws : List ℕ) (r : List Part). (x.0, ws) ∷ r) (numbers_skip x.0 x.1 p q at) (parts_skip l p q (at + x.0 * x.1)))

-- the numbers of a part fit into its bytes
abbrev pub PartFits : Part → Type 0
PartFits x = All (InBytes x.0) x.1

parts_of_joined : (l : List Part) (q : List ℕ) → All PartFits l → parts_in (map room_of l) (joined l ++ q) 0 ≡ l
unfolding joined
parts_of_joined [] q h = refl
parts_of_joined (x ∷ l) q h =
    let a = all_bytes x.0 x.1 in
    let r = joined l ++ q in
    let e : 0 + x.0 * length x.1 ≡ length a + 0 = omega (arith, length_all x.0 x.1) in
    rw (append_assoc a (joined l) q)
    (ap₂ (λ (ws : List ℕ) (m : List Part). (x.0, ws) ∷ m) (numbers_of_all x.0 x.1 r h.0)
    (ap (parts_in (map room_of l) (a ++ r)) e ∙ parts_skip (map room_of l) a r 0 ∙ parts_of_joined l q h.1))

-- a state that a buffer can hold: of the right sizes, every number within its bytes
pub record Fits (s : State) : Type 0 where
  pub sizes : Sizes s
  pub numbers : All PartFits (parts_of s)

pub state_of_bytes : (s : State) → Fits s → state_in (bytes_of s) ≡ s
unfolding bytes_of bytes_in
state_of_bytes s F =
    let Z : Sizes s = F.sizes in
    let t : length (table_words s.table) ≡ 96 = omega (arith, length_words s.table, Z.rows) in
    let rooms : map room_of (parts_of s) ≡ layout = rw (Z.entries, Z.map.sixteen, Z.arena, t) refl in
    state_of_parts (bytes_of s)
    ∙ ap state_of
    (ap₂ (λ (l : List Room) (b : List ℕ). parts_in l b 0) (sym rooms) (sym (append-nil (bytes_of s)))
    ∙ parts_of_joined (parts_of s) [] F.numbers)
    ∙ ap (λ r. state s.control s.arena r) (rows_of_words s.table Z.rows (four_of_all Z.holds))

-- From bytes to a state and back

joined_of_parts : (l : List Room) (b : List ℕ) (at : ℕ) → ((i : ℕ) → IsByte (get_or b i 0)) → at + space l ≤ length b
    → joined (parts_in l b at) ≡ take (space l) (drop at b)
unfolding joined
joined_of_parts [] b at B h = refl
joined_of_parts (x ∷ l) b at B h =
    rw (take-add (x.0 * x.1) (space l) (drop at b), drop-drop (x.0 * x.1) at b)
    (ap₂ (λ (y z : List ℕ). y ++ z) (all_of_numbers x.0 x.1 b at B (omega arith))
    (joined_of_parts l b (at + x.0 * x.1) B (omega arith)))

module _ (b : List ℕ) (e : length b ≡ 33820) (B : All IsByte b) where
  same_buffer : table_words (rows_of (table_in b)) ≡ table_in b → bytes_of (state_in b) ≡ b
  unfolding bytes_of bytes_in state_in control_in move_in
  same_buffer t =
      let p : parts_of (state_in b) ≡ parts_in layout b 0 = rw t (simp numbers_one) in
      ap joined p ∙ joined_of_parts layout b 0 (λ i. all_get IsByte b i B (omega arith)) (omega arith) ∙ take_all 33820 b (omega arith)

  -- a buffer whose eight rows are rows
  pub bytes_of_state : ((i : ℕ) → i < 8 → is_row (table_in b) (12 * i) ≡ true) → bytes_of (state_in b) ≡ b
  bytes_of_state h = same_buffer (words_of_rows (table_in b) (length_numbers 4 96 b 33436) h)

  -- so each sound one, since bytes that mean no row break R6
  pub bytes_of_sound : first_broken (state_in b) ≡ 0 → bytes_of (state_in b) ≡ b
  unfolding state_in
  bytes_of_sound s =
      let c = control_in b in
      let r = (says_r6 c.dir c.mv (arena_in b) (rows_of (table_in b))).test (sound_of (state_in b) s).r6 in
      same_buffer (sound_words c.dir c.mv (arena_in b) (table_in b) (length_numbers 4 96 b 33436) r)
