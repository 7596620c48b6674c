-- `table::bounds::SoundTable::bound_of_row` meets its contract. The invariant: the iteration has come to w after so many rounds, each of which added at least 1, and f(w) is not below w. The measure is how far w is from passing D. Assumes nothing.
use Rattle.std.proofs.Common.{suc, ◌≡◌, ◌+◌, ◌-◌, ◌≤◌}
use Rattle.rules.specs.Bound.{f, response}
use Rattle.table.specs.Memory.{table_row, above_of}
use Rattle.table.proofs.Recurrence.{came_to}
use Rattle.table.proofs.bounds.SoundTable.bound_of_row.Given as goal

abbrev pub invariant-loop-w : goal.invariant-loop-w
invariant-loop-w l = (l.c + l.rounds ≤ l.w) × (l.w ≤ f (above_of l.self.table l.i) (table_row l.self.table l.i) l.w) × (response (above_of l.self.table l.i) (table_row l.self.table l.i) ≡ came_to (above_of l.self.table l.i) (table_row l.self.table l.i) l.rounds l.w)

abbrev pub decreases-loop-w : goal.decreases-loop-w
decreases-loop-w l = suc l.d - l.w
