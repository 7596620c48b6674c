-- `table::faults::rows_check` meets its contract. The invariant: the checks of all rows come to those from row i on. Assumes nothing.
use Rattle.std.proofs.Common.{◌≡◌, []}
use Rattle.rules.specs.File.{fields_fault}
use Rattle.table.specs.Memory.{fields_of}
use Rattle.table.proofs.Checks.{fault_from}
use Rattle.table.proofs.faults.rows_check.Given as goal

abbrev pub invariant-loop-i : goal.invariant-loop-i
invariant-loop-i l = fields_fault l.rows.table.n [] 0 (fields_of l.rows) ≡ fault_from l.rows l.i
