-- `is_free`: the two words' tests are the test of the cells by the law free-by-masks.
use Rattle.std.proofs.Common.{sym, ap, ◌∙◌}
use Rattle.cells.specs.Words.{free_word}
use Rattle.cells.proofs.Free.{free_by_masks}
use Rattle.cells.proofs.Run.is_free.Goals as goal

pub returns-then-is_free_word : goal.returns-then-is_free_word
returns-then-is_free_word c =
    let a = c.args in
    let law = free_by_masks a.map.now a.self.start a.self.cells (record { sixteen = c.told-map; words = c.fits-map }) a.self.short in
    let low = sym (ap (free_word a.map.now _) c.low_mask.ensures) ∙ sym c.is_free_word.ensures ∙ c.if-is_free_word.true in
    rw (c.is_free_word-then-is_free_word.ensures, c.high_mask.ensures) (rw low at law)

pub returns-else-is_free_word : goal.returns-else-is_free_word
returns-else-is_free_word c =
    let a = c.args in
    let law = free_by_masks a.map.now a.self.start a.self.cells (record { sixteen = c.told-map; words = c.fits-map }) a.self.short in
    let low = sym (ap (free_word a.map.now _) c.low_mask.ensures) ∙ sym c.is_free_word.ensures ∙ c.if-is_free_word.false in
    c.if-is_free_word.false ∙ rw low at law
