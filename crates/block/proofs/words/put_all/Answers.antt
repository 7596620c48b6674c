-- `words::put_all` meets its contract: one number after another is put. Assumes nothing.
use Rattle.std.proofs.Common.{arith}
use Rattle.block.proofs.Arrays.{put_all, put_more, put_none}
use Rattle.block.proofs.words.put_all.Goals as goal

pub loop-i-init : goal.loop-i-init
loop-i-init g c = put_none _ _ _

pub loop-i-preserved : goal.loop-i-preserved
loop-i-preserved g c = put_more _ g.met.N.Number.wide _ _ _ _ _ (omega arith) c.index-all-i.is c.loop-i.invariant (rw c.WIDTH.ensures at c.put.ensures.stored)

pub returns : goal.returns
returns g c = put_all _ g.met.N.Number.wide _ _ _ _ (omega arith) c.loop-i.invariant
