-- `offer::room::RowNow::future_claim` meets its contract. The loop's invariant: what is added up is the sum of the future jobs before the k-th. Assumes nothing.
use Rattle.std.proofs.Common.{◌≡◌}
use Rattle.rules.specs.Lists.{sum}
use Rattle.offer.specs.Steps.{future_at}
use Rattle.offer.proofs.room.RowNow.future_claim.Given as goal

abbrev pub invariant-loop-k : goal.invariant-loop-k
invariant-loop-k l = l.sum ≡ sum l.k (future_at l.fn.self l.d)
