-- Header and label are stores before the zeros are laid.
use Rattle.std.proofs.Common.{ℕ, List, [], ◌∷◌, ◌≡◌, ◌+◌, false, ◌∙◌, arith}
use lib.ListN.{set, replicate}
use Rattle.model.specs.Arena.{start, place, plain, label_of, payload_place, new_record, laid, payload}
use Rattle.model.proofs.Records.{stored_first, laid_append}
use Rattle.record.specs.Words.{packed}
use Rattle.record.proofs.Words.{packed_plain}
use Rattle.record.proofs.lay_record.Goals as goal

header_label_zeros : (a : List ℕ) (c meter kind : ℕ)
    → laid (set (set a (place c 0) (plain c)) (place c 1) (label_of meter kind)) (payload_place c 0) (replicate (payload kind) 0)
    ≡ laid a (start c) (new_record c meter kind)
header_label_zeros a c meter kind =
    let p : place c 0 ≡ start c = omega arith in
    let r : payload_place c 0 ≡ start c + 2 = omega arith in
    rw (p, r, stored_first a (start c) (plain c) (label_of meter kind ∷ []))
    (laid_append a (start c) (plain c ∷ label_of meter kind ∷ []) (replicate (payload kind) 0))

pub returns : goal.returns
returns c =
    let e : packed c.args.c false ≡ plain c.args.c = packed_plain _ (omega (arith, c.ranges)) in
    c.clear_payload.ensures
    ∙ simp
    (c.store-2.ensures, c.store.ensures, c.place-2.ensures, c.place.ensures)
    (simp (c.pack_label.ensures, c.from.ensures, c.plain.ensures, e, c.lengths_of-lengths.ensures)
    (header_label_zeros _ _ _ _))
