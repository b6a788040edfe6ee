-- `section`: at each turn the steps were played as far as the turn has come.
use Rattle.script.specs.Printing.{line1}
use Rattle.play.specs.Plays.{run_in, Plays}
use Rattle.play.proofs.Archive.section.Given as goal

abbrev pub invariant-loop-i : goal.invariant-loop-i
invariant-loop-i l = Plays l.fn.self l.self l.fn.page l.page (line1 l.fn.part.count) (run_in l.fn.self l.lines l.words l.i)
