-- `table::writing::put_table` meets its contract: too small, or the rows' bytes and then the end field. Assumes nothing.
use Prim.Native.Nat.{◌+◌}
use mathlib.Core.List.{[]}
use mathlib.Core.Path.{◌≡◌, sym, ap, ◌∙◌}
use native.Mathlib.Omega.{arith}
use lib.ListN.{length}
use lib.Seq.{sets}
use Rattle.rules.specs.File.{file_bytes}
use Rattle.wire.proofs.Stores.{stored_then}
use Rattle.table.specs.Memory.{rows_bytes, rows_of, table_row}
use Rattle.table.specs.Answers.{written_of, output_after}
use Rattle.table.proofs.Places.{length_indexed}
use Rattle.table.proofs.Rows.{file_bytes_lem, length_file, length_most, put_short, put_fits, row_sizes_lem}
use Rattle.table.proofs.writing.put_table.Goals as goal
use Rattle.table.proofs.writing.put_table.Goals.{After-row_sizes-size}

-- what the rows take, and the file

rows : (c : After-row_sizes-size) → c.row_sizes-size.result ≡ length (rows_bytes (rows_of c.args.tb))
rows c = c.row_sizes-size.ensures ∙ row_sizes_lem c.args.tb c.args.tb.n (omega arith)

file : (c : After-row_sizes-size) → length (file_bytes (rows_of c.args.tb)) ≡ 3 + c.row_sizes-size.result
file c = omega (arith, rows c, length_file (rows_of c.args.tb))

pub overflow_add-size : goal.overflow_add-size
overflow_add-size c =
    let tb = c.args.tb in
    omega (arith, rows (goal.at.overflow_add-size c).After-row_sizes-size, length_most (rows_of tb), length_indexed (table_row tb) 0 tb.n)

pub returns-then-out-size : goal.returns-then-out-size
returns-then-out-size c =
    let a = c.args in
    let e = put_short (file_bytes (rows_of a.tb)) a.out.now (3 + c.row_sizes-size.result) (file (goal.at.returns-then-out-size c).After-row_sizes-size) c.if-out-size.true in
    record { value = ap written_of (sym e); out_after = ap (output_after a.out.now) (sym e) }

pub put_rows-end-requires : goal.put_rows-end-requires
put_rows-end-requires c =
    (omega arith, omega (arith, c.if-out-size.false, rows (goal.at.put_rows-end-requires c).After-row_sizes-size))

pub put_header-requires : goal.put_header-requires
put_header-requires c =
    let kept : length c.put_rows-end.new.out ≡ length c.args.out.now = c.put_rows-end.auto.out in
    omega (arith, kept, c.put_rows-end.ensures.value, c.if-out-size.false, rows (goal.at.put_header-requires c).After-row_sizes-size)

pub returns : goal.returns
returns c =
    let a = c.args in
    let e = put_fits (file_bytes (rows_of a.tb)) a.out.now (3 + c.row_sizes-size.result) (file (goal.at.returns c).After-row_sizes-size) c.if-out-size.false in record {
      value = ap written_of (sym e);
      out_after =
          stored_then (rows_bytes (rows_of a.tb)) (file_bytes []) a.out.now 0 c.put_rows-end.result c.put_rows-end.ensures.out_after (omega (arith, c.put_rows-end.ensures.value)) c.put_header.ensures
          ∙ ap (sets a.out.now 0) (file_bytes_lem (rows_of a.tb))
          ∙ ap (output_after a.out.now) (sym e);
    }
