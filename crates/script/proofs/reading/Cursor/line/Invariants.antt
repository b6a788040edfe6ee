-- `line`: at each turn the line from where the cursor stands, with the spaces left, is the line from its start.
use Rattle.std.proofs.Common.{◌≡◌, ◌-◌}
use Rattle.script.specs.Lines.{line_at}
use Rattle.script.proofs.reading.Cursor.line.Given as goal

abbrev pub invariant-loop : goal.invariant-loop
invariant-loop l = record {
  text : l.self.text.now ≡ l.initial.self.text.now;
  line : line_at l.self.text.now (l.spaces - l.counter) l.self.at ≡ line_at l.initial.self.text.now l.spaces l.initial.self.at;
}
