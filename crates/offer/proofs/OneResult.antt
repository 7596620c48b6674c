-- One possible result of each public function: every One (..) holds the right side of an equation in its contract. Assumes nothing.
use Rattle.std.proofs.Common.{ℕ}
use Rattle.rules.specs.OneResult.{One}
use Rattle.rules.proofs.OneResult.{one_result}
use Rattle.state.specs.declared.Rows.{Rows}
use Rattle.state.specs.declared.State.{State}
use Rattle.offer.specs.Steps.{offer_made}

pub offer_lem : (rows : Rows) (s : State) (budget deadline : ℕ) → One (offer_made rows s budget deadline).offered × One (offer_made rows s budget deadline).state
offer_lem rows s budget deadline = (one_result, one_result)
