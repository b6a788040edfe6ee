-- `section`: at each turn the lines left, from where the cursor stands, come to what all of them come to.
use Rattle.std.proofs.Common.{◌≡◌, ◌-◌, ◌+◌}
use Rattle.script.specs.Lines.{lines_at}
use Rattle.script.proofs.reading.Cursor.section.Given as goal

abbrev pub invariant-loop-i : goal.invariant-loop-i
invariant-loop-i l = record {
  text : l.self.text.now ≡ l.initial.self.text.now;
  lines : lines_at l.self.text.now (l.count - l.i) l.spaces (l.first + 1 + l.i) l.self.at
      ≡ lines_at l.initial.self.text.now l.count l.spaces (l.first + 1) l.initial.self.at;
}
