-- `table::writing::put_row` meets its contract: the two forms. Assumes nothing.
use Prim.Native.Nat.{◌+◌}
use mathlib.Core.List.{◌++◌}
use native.Mathlib.Omega.{arith}
use borrow.Author.Tests.{ne_eqb}
use Rattle.rules.specs.Fields.{two}
use Rattle.rules.specs.File.{margin_tag}
use Rattle.wire.proofs.Stores.{stored_then}
use Rattle.table.specs.Memory.{header_bytes, numbers_bytes}
use Rattle.table.specs.Answers.{row_in}
use Rattle.table.proofs.writing.put_row.Goals as goal

pub returns-else-row-eq0 : goal.returns-else-row-eq0
returns-else-row-eq0 c =
    let a = c.args in
    let r = row_in a.row in
    simp (ne_eqb _ _ c.if-row-eq0.false)
    (stored_then (header_bytes margin_tag 9) (numbers_bytes r ++ two r.M) a.out.now a.at (a.at + 3) c.put_header-else-row-eq0.ensures (omega arith)
    (stored_then (numbers_bytes r) (two r.M) c.put_header-else-row-eq0.new.out (a.at + 3) (a.at + 10) c.put_numbers-else-row-eq0.ensures (omega arith)
    c.put_u16.ensures))
