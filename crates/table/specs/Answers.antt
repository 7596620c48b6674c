-- What each answer of the code says in document 01's words: the values of every case. Assumes nothing.
use Rattle.std.specs.Prelude.{ℕ, ◌+◌, Bool, cond, ◌&&◌, ◌||◌, List, map, eqb, ltb, length, Result, Ok, Err}
use Rattle.std.specs.Prelude as memory
use Rattle.std.specs.Bool.{then_some}
use Rattle.std.proofs.Math.Option.{Option}
use Rattle.rules.specs.Lists.{total, unless}
use Rattle.rules.specs.Refusals as rules
use Rattle.rules.specs.Refusals.{Refusal, row_17, passes_d, R_M_over_D, refusal, at_row}
use Rattle.rules.specs.Rows.{Row, row_fault}
use Rattle.rules.specs.Bound as bounds
use Rattle.rules.specs.Bound.{most, bound, none_to_d, planned, unplanned, plan, response}
use Rattle.rules.specs.Fields.{field_fault}
use Rattle.rules.specs.File.{Field, is_row, margin_tag, row_tag, table_length, tag_fault, whole, broken, Scan, scan, Reading, read_as, unread, plan_fields, plan_scan, read, Writing, written, unwritten}
use Rattle.refusal.specs.Refusals.{refusal_of}
use Rattle.refusal.specs.declared.Refusal as refusals
use Rattle.wire.specs.Field.{field_size}
use Rattle.table.specs.Memory.{table_row, above_of, field_at, table_of, plan_of}
use Rattle.table.specs.Walk.{size_at, start_of}
use Rattle.table.specs.declared.Table.{Table}
use Rattle.table.specs.declared.Plan.{Plan}
use Rattle.table.specs.declared.Refused.{Refused}
use Rattle.table.specs.declared.FileRefusal.{FileRefusal}
use Rattle.table.specs.declared.PlannedTable.{PlannedTable}
use Rattle.table.specs.declared.row.Row as code
use Rattle.table.specs.declared.row.FileRow.{FileRow}
use Rattle.table.specs.declared.row.FileRows.{FileRows}
use Rattle.table.specs.declared.bounds.Bound.{Bound}

-- the tag is a row's
abbrev pub is_row_tag : ℕ → Bool
is_row_tag tag = eqb tag row_tag || eqb tag margin_tag

-- a refusal that is about no row
abbrev pub file_refusal : Refusal → (from size : ℕ) → FileRefusal
file_refusal why from size = record { why = refusal_of why; row = memory.None; part = record { from = from; size = size } }

-- the field at the place at, where the rest s of a file starts: of a row, its size; of the end, nothing; or why it is refused; full: sixteen rows came before it
unfoldable pub next_field : Bool → ℕ → List ℕ → Result (memory.Option ℕ) FileRefusal
next_field full at s =
    unless (field_fault table_length (is_row s && full) s) (λ b. Err (file_refusal b.why at b.size))
    (Ok (then_some (is_row s) (field_size s)))

-- a refusal of the row at a position, counted from 1, whose whole field is shown
abbrev pub row_refusal : List ℕ → Refused → FileRefusal
row_refusal s x =
    record { why = x.why; row = memory.Some (x.row + 1); part = record { from = start_of s x.row; size = size_at s (start_of s x.row) } }

-- how many rows the file has, or why it is broken
abbrev pub scanned_of : Scan → Result ℕ FileRefusal
scanned_of (whole fs) = Ok (length fs)
scanned_of (broken why from size) = Err (file_refusal why from size)

-- a row in memory as the rules' row
abbrev pub row_in : code.Row → Row
row_in r = record { C = r.c; D = r.d; T = r.t; rank = r.rank; M = r.m }

-- a row's field in memory as the rules' field
abbrev pub field_in : FileRow → Field
field_in f = record { tag = f.tag; row = row_in f.row }

-- a refusal of the rules in memory, with its row
abbrev pub refused_of : rules.Refused → Refused
refused_of x = record { why = refusal_of x.why; row = x.row }

-- the checks of a row pass, or why not
abbrev pub row_passes : Option Refusal → Result Unit refusals.Refusal
row_passes fault = unless fault (λ why. Err (refusal_of why)) (Ok tt)

-- the checks of rows pass, or the first refusal
abbrev pub rows_pass : Option rules.Refused → Result Unit Refused
rows_pass fault = unless fault (λ x. Err (refused_of x)) (Ok tt)

-- what 6 to 9 say of one row
abbrev pub row_checked : Table → ℕ → Result Unit refusals.Refusal
row_checked tb i = row_passes (row_fault tb.n (above_of tb i) (table_row tb i))

-- what 6 to 9 and 21 say of it
abbrev pub field_checked : FileRows → ℕ → Result Unit refusals.Refusal
field_checked rows i = row_passes (tag_fault rows.table.n (above_of rows.table i) (field_at rows i))

-- what the rows above ask at most of w ticks
abbrev pub demand_of : List Row → ℕ → ℕ
demand_of above w = total (λ j. most j w) above

-- R with the rounds, or nothing where the iteration passes D
abbrev pub bound_of : bounds.Bound → memory.Option Bound
bound_of (bound R rounds) = memory.Some (record { r = R; rounds = rounds })
bound_of none_to_d = memory.None

-- the bound of a row, the one at a position, where it leaves the margin; or why not: 10, or 22, R + M > D
abbrev pub bounded_of : Row → ℕ → bounds.Bound → Result Bound Refused
bounded_of r i none_to_d = Err (refused_of (at_row passes_d i))
bounded_of r i (bound R rounds) = cond (ltb r.D (R + r.M)) (Err (refused_of (at_row R_M_over_D i))) (Ok (record { r = R; rounds = rounds }))

-- that of the row at a position of a table
abbrev pub row_bound : Table → ℕ → Result Bound Refused
row_bound tb i = bounded_of (table_row tb i) i (response (above_of tb i) (table_row tb i))

-- the plan, or the refusal and its row
abbrev pub planning_of : bounds.Plan → Result Plan Refused
planning_of (planned ps) = Ok (plan_of ps)
planning_of (unplanned x) = Err (refused_of x)

-- planning: 5, then 6 to 10 and 22
unfoldable pub plan_or_refuse : List Row → bounds.Plan
plan_or_refuse rs = cond (ltb 16 (length rs)) (unplanned (refusal row_17)) (plan rs)

-- the table with its plan; or the refusal, the row that it is about, and the shown part
abbrev pub reading_of : memory.Option ℕ → Reading → Result PlannedTable FileRefusal
reading_of row (read_as ps) = Ok (record { table = table_of (map (λ p. p.row) ps); plan = plan_of ps })
reading_of row (unread why from size) = Err (record { why = refusal_of why; row = row; part = record { from = from; size = size } })

-- the row that a refused plan is about, counted from 1
abbrev pub plan_row : bounds.Plan → memory.Option ℕ
plan_row (planned ps) = memory.None
plan_row (unplanned x) = memory.Some (x.row + 1)

-- the row that the refusal of a file is about: none until it is scanned whole
abbrev pub scan_row : Scan → memory.Option ℕ
scan_row (whole fs) = plan_row (plan_fields fs)
scan_row (broken why from size) = memory.None

-- what is read by the plan of a file's fields
abbrev pub plan_read : List Field → bounds.Plan → Result PlannedTable FileRefusal
plan_read fs p = reading_of (plan_row p) (plan_scan fs p)

-- what is read of a file
unfoldable pub file_read : List ℕ → Result PlannedTable FileRefusal
file_read s = reading_of (scan_row (scan 16 0 s)) (read s)

-- the length, or the refusal
abbrev pub written_of : Writing → Result ℕ refusals.Refusal
written_of (written n after) = Ok n
written_of (unwritten why) = Err (refusal_of why)

-- what an output that held was then holds
abbrev pub output_after : List ℕ → Writing → List ℕ
output_after was (written n after) = after
output_after was (unwritten why) = was
