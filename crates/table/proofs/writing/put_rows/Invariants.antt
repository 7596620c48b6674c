-- `table::writing::put_rows` meets its contract. The invariant: the bytes of the first i rows are put, and at is behind them. Assumes nothing.
use Rattle.std.proofs.Common.{◌≡◌, length}
use Rattle.std.proofs.lemmas.List.Edits.{sets}
use Rattle.table.specs.Memory.{indexed, table_row, rows_bytes}
use Rattle.table.proofs.writing.put_rows.Given as goal

abbrev pub invariant-loop-i : goal.invariant-loop-i
invariant-loop-i l = (l.at ≡ length (rows_bytes (indexed (table_row l.tb) 0 l.i))) × (l.out ≡ sets l.initial.out 0 (rows_bytes (indexed (table_row l.tb) 0 l.i)))
