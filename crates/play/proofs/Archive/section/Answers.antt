-- `section`: its numbers laid out as words, its count printed, its steps played.
use Rattle.std.proofs.Common.{◌≡◌, ℕ, ap, ◌*◌, arith}
use Rattle.play.proofs.Sections.{plays_none, plays_more, section_plays}
use Rattle.play.proofs.Archive.section.Goals as goal

pub loop-i-init : goal.loop-i-init
loop-i-init c = plays_none c.args.self.now c.args.lines _ c.put_line.ensures

pub loop-i-preserved : goal.loop-i-preserved
loop-i-preserved c = plays_more c.args.self.now c.args.lines _ c.loop-i.i _ _ _ c.step_in.ensures c.loop-i.invariant c.step.ensures

pub returns : goal.returns
returns c =
    let a = c.args in
    let all : c.loop-i.i ≡ a.part.count = omega arith in
    section_plays a.input.now _ a.lines a.part.count _ a.part.start 32768 a.self.now c.requires
    (ap (λ (n : ℕ). n * a.part.count) c.numbers.ensures) c.numbers-2.ensures (rw all at c.loop-i.invariant)
