-- `table::writing::put_rows` meets its contract. The invariant: the bytes of the first i rows are put, and at is behind them. Assumes nothing.
use Rattle.std.proofs.Common.{◌≡◌, ◌+◌, ap, ◌∙◌, arith}
use lib.Seq.{sets}
use Rattle.rules.specs.File.{row_bytes}
use Rattle.wire.proofs.Stores.{stored_then}
use Rattle.table.specs.Memory.{indexed, table_row, rows_bytes, row_size}
use Rattle.rules.specs.Rows.{Row}
use Rattle.table.proofs.Rows.{bytes_more, length_first, length_more}
use Rattle.table.proofs.writing.put_rows.Goals as goal
use Rattle.table.proofs.writing.put_rows.Goals.{After-row_at-row}

-- how long the row's field is

size : (c : After-row_at-row) → row_size c.row_at-row.result.m ≡ row_size (table_row c.args.tb c.loop-i.i).M
size c = ap (λ (r : Row). row_size r.M) c.row_at-row.ensures

pub put_row-requires : goal.put_row-requires
put_row-requires c =
    let l = c.loop-i in
    let tb = c.args.tb in
    omega (arith, size (goal.at.put_row-requires c).After-row_at-row, length_more (table_row tb) l.i, length_first (table_row tb) 0 (l.i + 1) tb.n (omega arith), c.requires.1)

pub overflow_add-at : goal.overflow_add-at
overflow_add-at c =
    let l = c.loop-i in
    let tb = c.args.tb in
    omega (arith, size (goal.at.overflow_add-at c).After-row_at-row, length_more (table_row tb) l.i, length_first (table_row tb) 0 (l.i + 1) tb.n (omega arith), c.requires.1, c.row_size-at.ensures)

pub loop-i-preserved : goal.loop-i-preserved
loop-i-preserved c =
    let l = c.loop-i in
    let a = c.args in
    let rows = rows_bytes (indexed (table_row a.tb) 0 l.i) in (
      omega (arith, l.invariant.0, c.row_size-at.ensures, size (goal.at.loop-i-preserved c).After-row_at-row, length_more (table_row a.tb) l.i),
      stored_then rows (row_bytes (table_row a.tb l.i)) a.out.now 0 l.at l.invariant.1 (omega (arith, l.invariant.0))
          (c.put_row.ensures ∙ ap (λ (r : Row). sets l.out l.at (row_bytes r)) c.row_at-row.ensures)
          ∙ ap (sets a.out.now 0) (bytes_more (table_row a.tb) l.i),
    )
