-- The table's rows by value: taken out of a list of eight, and put back. A table of another length is left alone.
use Rattle.std.specs.Prelude.{List, eqb, length, replicate, Option, Some, None}
use Rattle.model.specs.declared.Row.{Row}
use Rattle.model.specs.Choice.{pick}
use Rattle.model.specs.Rows.{fresh_row}

-- "eight rows, one for each client", in order: a table of any other length has none to take
abbrev pub taken : List Row → Option (List Row)
taken t = pick (eqb (length t) 8) (Some t) None

-- the rows of a table of eight; what stands for them in any other
abbrev pub eight : List Row → List Row
eight t = pick (eqb (length t) 8) t (replicate 8 fresh_row)

-- a table of eight gets the rows; any other is left alone
abbrev pub put_back : List Row → List Row → List Row
put_back t rows = pick (eqb (length t) 8) rows t
