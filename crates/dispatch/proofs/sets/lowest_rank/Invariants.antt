-- `dispatch::sets::lowest_rank` meets its contract. What is left of the fold is that of the rows left, with the best so far. Assumes nothing.
use Rattle.std.proofs.Common.{◌≡◌, None}
use Rattle.dispatch.specs.Loops.{fold_rows, low_at}
use Rattle.dispatch.proofs.sets.lowest_rank.Given as goal

abbrev pub invariant-loop-row : goal.invariant-loop-row
invariant-loop-row l = fold_rows (low_at l.rank l.set) 0 16 None ≡ fold_rows (low_at l.rank l.left) 0 16 l.best

abbrev pub decreases-loop-row : goal.decreases-loop-row
decreases-loop-row l = l.left
