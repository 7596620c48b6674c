-- `table::bounds::SoundTable::demand` meets its contract. The invariant: the sum is what the first j rows ask, at most 65535 * 65535 each. Assumes nothing.
use Rattle.std.proofs.Common.{◌≡◌, ◌*◌, ◌≤◌}
use Rattle.table.specs.Memory.{above_of}
use Rattle.table.specs.Answers.{demand_of}
use Rattle.table.proofs.bounds.SoundTable.demand.Given as goal

abbrev pub invariant-loop-j : goal.invariant-loop-j
invariant-loop-j l = (l.sum ≡ demand_of (above_of l.self.table l.j) l.w) × (l.sum ≤ l.j * (65535 * 65535))
