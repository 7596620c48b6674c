-- The round trip of the two functions, both ways: what write_table writes, read_table reads, and the other way round. Assumes nothing.
use Prim.Native.Nat.{ℕ, ◌≤◌}
use mathlib.Core.List.{List, map}
use mathlib.Core.Path.{ap, refl, ◌≡◌, ◌∙◌}
use lib.ListN.{length, length-map, take}
use Rattle.std.specs.Prelude.{Option, Ok}
use Rattle.rules.specs.Rows.{Row}
use Rattle.rules.specs.Bound.{PlannedRow}
use Rattle.rules.specs.File.{Reading, Writing, read, read_as, scan, unread, unwritten, write, written}
use Rattle.rules.specs.Lists.{All}
use Rattle.rules.specs.Tables.{Bytes, RowNarrow}
use Rattle.table.specs.Memory.{plan_of, rows_of, table_of}
use Rattle.table.specs.Answers.{file_read, output_after, reading_of, scan_row, written_of}
use Rattle.table.specs.declared.Plan.{Plan}
use Rattle.table.specs.declared.PlannedTable.{PlannedTable}
use Rattle.table.specs.declared.Table.{Table}
use Rattle.rules.proofs.Results.{table_promises}
use Rattle.table.proofs.Files.{table_rows}

-- the answer is Ok n exactly where the rules write n bytes
length_written : (w : Writing) (n : ℕ) → written_of w ≡ Ok n → (after : List ℕ) × (w ≡ written n after)
length_written (written m after) n e = (after, cc)
length_written (unwritten why) n e = cc

accepted_read : (row : Option ℕ) (r : Reading) {x : PlannedTable} → reading_of row r ≡ Ok x → (ps : List PlannedRow) × (r ≡ read_as ps) × (x ≡ record { table = table_of (map (λ p. p.row) ps); plan = plan_of ps })
accepted_read row (read_as ps) e = (ps, refl, cc)
accepted_read row (unread why from size) e = cc

-- a table written and read again is the same table: what write_table answers with Ok n, read_table accepts from the first n bytes, with the same rows
pub write_read : (tb : Table) → All RowNarrow (rows_of tb) → (out : List ℕ) (n : ℕ) → written_of (write (rows_of tb) out) ≡ Ok n
    → (p : Plan) × (file_read (take n (output_after out (write (rows_of tb) out))) ≡ Ok (record { table = table_of (rows_of tb); plan = p }))
unfolding file_read
write_read tb narrow out n e =
    let (after, w) = length_written (write (rows_of tb) out) n e in
    let (ps, r, rows, b) = table_promises.written_read (rows_of tb) narrow out n after w in (
      plan_of ps,
      ap (λ (x : Writing). reading_of (scan_row (scan 16 0 (take n (output_after out x)))) (read (take n (output_after out x)))) w
          ∙ ap (reading_of (scan_row (scan 16 0 (take n after)))) r
          ∙ ap (λ (rs : List Row). Ok (record { table = table_of rs; plan = plan_of ps })) rows,
    )

-- an accepted file is written back to the same bytes
pub read_write : (s : List ℕ) → Bytes s → (x : PlannedTable) → file_read s ≡ Ok x → (out : List ℕ) → length s ≤ length out
    → let w = write (rows_of x.table) out in (written_of w ≡ Ok (length s)) × (take (length s) (output_after out w) ≡ s)
unfolding file_read
read_write s bytes x e out l =
    let (ps, r, same) = accepted_read (scan_row (scan 16 0 s)) (read s) e in
    let few = ((table_promises.read_iff s bytes ps).0 r).few in
    let (after, w, front) = table_promises.read_written s bytes ps r out l in
    rw (same, table_rows (map (λ p. p.row) ps) (rw (length-map ps (λ p. p.row)) few), w) (refl, front)
