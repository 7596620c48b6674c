-- One possible result of each public function: every One (..) holds the right side of an equation in its contract. Assumes nothing.
use Rattle.rules.specs.OneResult.{One}
use Rattle.rules.proofs.OneResult.{one_result}
use Rattle.refusal.specs.Refusals.{number_of}
use Rattle.refusal.specs.declared.Refusal.{Refusal}

pub number_lem : (self : Refusal) → One (number_of self)
number_lem self = one_result
