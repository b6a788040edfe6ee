-- `run`: what is read is the text, or as much of one that is too long as shows that it is; the page has room for all that is said of it.
use Rattle.std.proofs.Common.{◌≡◌, ℕ, List, [], ◌<◌, ◌≤◌, ◌++◌, length, take, sym, ap, ◌∙◌, arith, append-nil, length-take-le, IfSome, OnOk}
use Rattle.std.proofs.lemmas.Bool.{cases_lt}
use Rattle.std.proofs.lemmas.List.{take_at}
use Rattle.std.specs.Prelude.{Some, None, Ok, Err}
use Rattle.std.specs.declared.option.Option.{Option}
use Rattle.std.specs.declared.result.Result.{Result}
use Rattle.std.specs.Io.KnownBytes.{Appends, Consumes, IsAtEnd}
use Rattle.play.specs.Plays.{replay_text}
use Rattle.play.proofs.Printed.{taken_text}
use Rattle.replay.proofs.run.Goals as goal
use mathlib.Core.Logic.{⊎_elim}

-- what is said of the bytes that were read is said of all
same_said : (text left read : List ℕ) → text ≡ read ++ left → (length read < 65537 → left ≡ []) → length read ≤ 65537
    → replay_text read ≡ replay_text text
same_said text left read p end room =
    ⊎_elim (λ h. ap replay_text (sym (append-nil read) ∙ ap (λ (z : List ℕ). read ++ z) (sym (end h)) ∙ sym p))
    (λ h. ap replay_text (sym (take_at read left 65537 (omega arith)) ∙ ap (take 65537) (sym p)) ∙ taken_text text)
    (cases_lt (length read) 65537)

said_of : (known left old new : Option (List ℕ)) (read : List ℕ) {out : List ℕ} → Consumes known left read
    → (length read < 65537 → IsAtEnd left) → length read ≤ 65537 → out ≡ replay_text read → Appends old new out
    → IfSome known (λ text. Appends old new (replay_text text))
said_of None left old new read p end room f w = tt
said_of (Some text) None old new read p end room f w = absurd p
said_of (Some text) (Some left) old new read {out} p end room f w =
    let s : out ≡ replay_text text = f ∙ same_said text left read p end room in
    rw s at w

said : {T E : Type 0} (r : Result T E) (known left old new : Option (List ℕ)) (read : List ℕ) {out : List ℕ} → Consumes known left read
    → (length read < 65537 → IsAtEnd left) → length read ≤ 65537 → out ≡ replay_text read → OnOk r (Appends old new out)
    → OnOk r (IfSome known (λ text. Appends old new (replay_text text)))
said (Err e) known left old new read p end room f w = tt
said (Ok u) known left old new read p end room f w = said_of known left old new read p end room f w

pub returns : goal.returns
returns g c =
    let n = c.in_ok-n.n in
    let buffer = c.read_full.new.buffer in
    let room : length buffer ≡ 65537 = omega arith in
    let count : length (take n buffer) ≡ n = length-take-le n buffer c.in_ok-n.ensures.within in
    said c.write_all.result _ _ _ _ (take n buffer) c.in_ok-n.ensures.bytes (λ h. c.in_ok-n.ensures.end (omega arith))
    (omega (arith, c.in_ok-n.ensures.within)) (c.replay-r.ensures.whole (omega arith)) c.write_all.ensures.bytes
