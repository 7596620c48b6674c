-- `words::put_all`: the numbers put so far. Assumes nothing.
use Rattle.std.proofs.Common.{◌≡◌, take}
use lib.Seq.{sets}
use Rattle.block.specs.Words.{joined}
use Rattle.block.proofs.words.put_all.Given as goal

abbrev pub invariant-loop-i : goal.invariant-loop-i
invariant-loop-i g l = l.b ≡ sets l.initial.b l.at (joined g.N.Number.bytes (take l.i l.all))
