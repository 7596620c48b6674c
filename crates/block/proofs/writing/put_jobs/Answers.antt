-- `writing::put_jobs` meets its contract: two arrays, one after the other. Assumes nothing.
use Rattle.std.proofs.Common.{arith}
use Rattle.block.specs.Layout.{jobs_bytes}
use Rattle.block.proofs.Arrays.{put_then, put_to}
use Rattle.block.proofs.writing.put_jobs.Goals as goal

pub returns : goal.returns
unfolding jobs_bytes
returns c = put_then c.put_all.ensures (omega arith) (put_to c.put_all-2.ensures (omega arith))
