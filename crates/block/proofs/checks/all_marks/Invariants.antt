-- `checks::all_marks`: the set so far has the ranks passed. Assumes nothing.
use Rattle.std.proofs.Common.{◌≡◌}
use Rattle.block.specs.Tests.{or_of, rank_mark}
use Rattle.block.proofs.checks.all_marks.Given as goal

abbrev pub invariant-loop-rank : goal.invariant-loop-rank
invariant-loop-rank l = l.x ≡ or_of (rank_mark l.ranks) l.rank-index
