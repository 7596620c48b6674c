-- One possible result of each public function: every One (..) holds the right side of an equation in its contract. Assumes nothing.
use Rattle.std.proofs.Common.{ℕ, Bool}
use Rattle.rules.specs.OneResult.{One}
use Rattle.rules.proofs.OneResult.{one_result}
use Rattle.state.specs.declared.Rows.{Rows}
use Rattle.state.specs.declared.State.{State}
use Rattle.dispatch.specs.Steps.{tick_in}

pub tick_lem : (rows : Rows) (s : State) (set : ℕ) (done soft : Bool) → One (tick_in rows s set done soft).answer × One (tick_in rows s set done soft).state
tick_lem rows s set done soft = (one_result, one_result)
