-- `table::bounds::SoundTable::plan` meets its contract. The invariant: the first i rows are planned. Assumes nothing.
use Rattle.table.proofs.Plans.{SoFar}
use Rattle.table.proofs.bounds.SoundTable.plan.Given as goal

abbrev pub invariant-loop-i : goal.invariant-loop-i
invariant-loop-i l = SoFar l.self.table l.i l.r l.u l.rounds
