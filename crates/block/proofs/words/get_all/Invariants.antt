-- `words::get_all`: the numbers read so far. Assumes nothing.
use Rattle.std.proofs.Common.{◌≡◌, length, take}
use Rattle.block.specs.Words.{numbers_at}
use Rattle.block.proofs.words.get_all.Given as goal

abbrev pub invariant-loop-i : goal.invariant-loop-i
invariant-loop-i g l = (length l.x-items ≡ g.row.K) × (take l.i l.x-items ≡ numbers_at g.N.Number.read g.N.Number.WIDTH l.b l.at l.i)
