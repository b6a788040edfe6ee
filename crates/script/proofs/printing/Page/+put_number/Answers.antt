-- `put_number` by recursion: the digits of a tenth, where there are any, and the last digit behind them. The digit is taken by its value,
-- however it was reckoned, so that a wrong one is refused for its value alone.
use Rattle.std.proofs.Common.{arith}
use Rattle.script.proofs.Pages.{writes_then, writes_byte, decimal_small, decimal_more}
use Rattle.script.proofs.printing.Page.+put_number.Goals as goal
use Rattle.script.proofs.printing.Page.+put_number.Goals.{then-n-ge10, else-n-ge10}

pub returns : goal.returns
returns t c =
    let n = c.args.n in
    elim c.if-n-ge10.branch [
      | then-n-ge10 w ↦ rw (decimal_more n w.if-n-ge10.true)
          (writes_then w.put_number.ensures (writes_byte (omega arith) (rw w.self-is at c.put.ensures)))
      | else-n-ge10 w ↦ rw (decimal_small n w.if-n-ge10.false) (writes_byte (omega arith) (rw w.self-is at c.put.ensures))
    ]
