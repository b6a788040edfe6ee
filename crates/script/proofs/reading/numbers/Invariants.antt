-- `numbers`: at each turn the numbers left, laid from where it stands, make the list that all of them make.
use Rattle.std.proofs.Common.{◌≡◌, ◌-◌, length}
use Rattle.std.proofs.lemmas.List.Edits.{sets}
use Rattle.script.specs.Lines.{numbers_at}
use Rattle.script.proofs.reading.numbers.Given as goal

abbrev pub invariant-loop-word : goal.invariant-loop-word
invariant-loop-word l = record {
  text : l.cursor.text.now ≡ l.initial.text;
  words : sets l.words l.word-index (numbers_at l.cursor.text.now (length l.words - l.word-index) l.cursor.at)
      ≡ sets l.initial.words 0 (numbers_at l.initial.text (length l.initial.words) l.at);
}
