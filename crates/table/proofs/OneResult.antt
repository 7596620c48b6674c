-- One possible result of each public function: every One (..) holds the right side of an equation in its contract. Assumes nothing.
use Prim.Native.Nat.{ℕ}
use mathlib.Core.List.{List}
use Rattle.rules.specs.File.{write}
use Rattle.rules.specs.OneResult.{One}
use Rattle.rules.proofs.OneResult.{one_result}
use Rattle.table.specs.Memory.{rows_of}
use Rattle.table.specs.Answers.{file_read, output_after, plan_or_refuse, planning_of, written_of}
use Rattle.table.specs.declared.Table.{Table}

pub read_table_lem : (s : List ℕ) → One (file_read s)
read_table_lem s = one_result

pub plan_table_lem : (tb : Table) → One (planning_of (plan_or_refuse (rows_of tb)))
plan_table_lem tb = one_result

pub write_table_lem : (tb : Table) (out : List ℕ) → One (written_of (write (rows_of tb) out)) × One (output_after out (write (rows_of tb) out))
write_table_lem tb out = (one_result, one_result)
