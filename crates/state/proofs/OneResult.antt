-- One possible result of each public function: every One (..) holds the right side of an equation in its contract. Assumes nothing.
use Rattle.std.proofs.Common.{ℕ}
use Rattle.rules.specs.Tick.{bit}
use Rattle.rules.specs.OneResult.{One}
use Rattle.rules.proofs.OneResult.{one_result}
use Rattle.table.specs.declared.Plan.{Plan}
use Rattle.table.specs.declared.Table.{Table}
use Rattle.state.specs.Fresh.{fresh_in, planned_rows}
use Rattle.state.specs.Meaning.{wrapped}
use Rattle.state.specs.Sets.{known}

pub fresh_state_lem : (n : ℕ) → One (fresh_in n)
fresh_state_lem n = one_result

pub planned_rows_lem : (tb : Table) (plan : Plan) → One (planned_rows tb plan)
planned_rows_lem tb plan = one_result

pub known_rows_lem : (n : ℕ) → One (known n)
known_rows_lem n = one_result

pub has_lem : (set i : ℕ) → One (bit set i)
has_lem set i = one_result

pub since_lem : (clock stamp : ℕ) → One (wrapped clock stamp)
since_lem clock stamp = one_result
