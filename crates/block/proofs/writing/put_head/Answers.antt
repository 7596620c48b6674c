-- `writing::put_head` meets its contract: the first sixteen bytes, one part after the other. Assumes nothing.
use Rattle.std.proofs.Common.{refl}
use Rattle.block.specs.Layout.{head_bytes}
use Rattle.block.proofs.Arrays.{put_one, put_then}
use Rattle.block.proofs.writing.put_head.Goals as goal

pub returns : goal.returns
unfolding head_bytes
returns c =
    put_then (put_one refl) refl (put_then c.put_marks.ensures refl (put_then (put_one refl) refl c.put_numbers.ensures))
