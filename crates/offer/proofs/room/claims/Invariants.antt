-- `offer::room::claims` meets its contract. The loop's invariant: what is added up is the sum of the rows passed, each below 2^32. Assumes nothing.
use Rattle.std.proofs.Common.{◌≡◌, ◌*◌, ◌≤◌}
use Rattle.rules.specs.Lists.{sum}
use Rattle.offer.specs.Steps.{claim_at}
use Rattle.offer.proofs.room.claims.Given as goal

abbrev pub invariant-loop-i : goal.invariant-loop-i
invariant-loop-i l = record { bounded : l.sum ≤ l.i * 4294967295; summed : l.sum ≡ sum l.i (claim_at l.fn.rows l.fn.s l.d) }
