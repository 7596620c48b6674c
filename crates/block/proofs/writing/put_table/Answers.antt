-- `writing::put_table` meets its contract: four arrays, one after the other. Assumes nothing.
use Rattle.std.proofs.Common.{arith}
use Rattle.block.specs.Layout.{table_bytes}
use Rattle.block.proofs.Arrays.{put_then, put_to}
use Rattle.block.proofs.writing.put_table.Goals as goal

pub returns : goal.returns
unfolding table_bytes
returns c = put_then c.put_all.ensures (omega arith) (put_then c.put_all-2.ensures (omega arith) (put_then c.put_all-3.ensures (omega arith) (put_to c.put_all-4.ensures (omega arith))))
