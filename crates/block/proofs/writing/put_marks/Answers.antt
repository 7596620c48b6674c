-- `writing::put_marks` meets its contract: two bytes, one after the other. Assumes nothing.
use Rattle.std.proofs.Common.{refl}
use Rattle.block.proofs.Arrays.{put_one, put_then}
use Rattle.block.proofs.writing.put_marks.Goals as goal

pub returns : goal.returns
returns c = rw c.last_number.ensures (put_then (put_one refl) refl (put_one refl))
