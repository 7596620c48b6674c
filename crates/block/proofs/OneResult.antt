-- One possible result of each public function: every One (..) holds the right side of an equation in its contract. Assumes nothing.
use Rattle.std.proofs.Common.{ℕ, List}
use Rattle.rules.specs.OneResult.{One}
use Rattle.rules.proofs.OneResult.{one_result}
use Rattle.state.specs.declared.Rows.{Rows}
use Rattle.state.specs.declared.State.{State}
use Rattle.block.specs.Layout.{encoded_on, written_on}
use Rattle.block.specs.Tests.{decoded_of}

pub decode_lem : (b : List ℕ) → One (decoded_of b)
decode_lem b = one_result

pub encode_lem : (rows : Rows) (s : State) (b : List ℕ) → One (encoded_on b rows s)
encode_lem rows s b = one_result

pub write_state_lem : (s : State) (b : List ℕ) → One (written_on b s)
write_state_lem s b = one_result
