-- The number itself falls: what is left to write is a tenth of it.
use Rattle.script.proofs.printing.Page.+put_number.Given as goal

abbrev pub decreases-put_number : goal.decreases-put_number
decreases-put_number l = l.n
