-- `dispatch::sets::aged_rows` meets its contract. The loop has looked at the first i rows. Assumes nothing.
use Rattle.std.proofs.Common.{◌≡◌}
use Rattle.dispatch.specs.Loops.{aged_at, rows_that}
use Rattle.dispatch.proofs.sets.aged_rows.Given as goal

abbrev pub invariant-loop-i : goal.invariant-loop-i
invariant-loop-i l = l.rows ≡ rows_that (aged_at l.ticks l.stamp l.clock) l.i
