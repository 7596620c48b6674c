-- `offer::room::unrun` meets its contract. The loop's invariant: what is added up is the sum of the firm jobs passed, each below 2^16. Assumes nothing.
use Rattle.std.proofs.Common.{◌≡◌, ◌*◌, ◌≤◌}
use Rattle.rules.specs.Lists.{sum}
use Rattle.offer.specs.Steps.{unrun_at}
use Rattle.offer.proofs.room.unrun.Given as goal

abbrev pub invariant-loop-i : goal.invariant-loop-i
invariant-loop-i l = record { bounded : l.sum ≤ l.i * 65535; summed : l.sum ≡ sum l.i (unrun_at l.fn.s) }
