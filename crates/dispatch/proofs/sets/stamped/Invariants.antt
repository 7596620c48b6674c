-- `dispatch::sets::stamped` meets its contract. The loop has changed the first i stamps. Assumes nothing.
use Rattle.std.proofs.Common.{◌≡◌}
use Rattle.dispatch.specs.Loops.{marked, upto}
use Rattle.dispatch.proofs.sets.stamped.Given as goal

abbrev pub invariant-loop-i : goal.invariant-loop-i
invariant-loop-i l = l.x-items ≡ upto (marked l.rows l.v) l.i l.fn.stamp
