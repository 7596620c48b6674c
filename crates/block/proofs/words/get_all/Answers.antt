-- `words::get_all` meets its contract: one number after another is read. Assumes nothing.
use Rattle.std.proofs.Common.{arith, rules}
use lib.ListN.{length-replicate}
use Rattle.block.proofs.Arrays.{read_all, read_more, read_none}
use Rattle.block.proofs.words.get_all.Goals as goal

pub loop-i-init : goal.loop-i-init
loop-i-init g c = (length-replicate _ _, read_none _)

pub loop-i-preserved : goal.loop-i-preserved
loop-i-preserved g c = (search rules, read_more _ _ _ _ (omega arith) c.loop-i.invariant.1 (rw c.WIDTH.ensures at c.get.ensures))

pub returns : goal.returns
returns g c = read_all _ _ c.loop-i.i _ c.loop-i.invariant.0 (omega arith) c.loop-i.invariant.1
