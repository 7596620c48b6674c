-- `checks::firms_good`: what is together so far are the faults passed. Assumes nothing.
use Rattle.std.proofs.Common.{◌≡◌}
use Rattle.block.specs.Tests.{or_of, firm_fault_at}
use Rattle.block.proofs.checks.firms_good.Given as goal

abbrev pub invariant-loop-i : goal.invariant-loop-i
invariant-loop-i l = l.x ≡ or_of (firm_fault_at l.b l.queued l.ran) l.i
