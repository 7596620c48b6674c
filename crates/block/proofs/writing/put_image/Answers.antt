-- `writing::put_image` meets its contract: the parts one after the other are the whole. Assumes nothing.
use Rattle.std.proofs.Common.{refl, arith}
use Rattle.block.specs.Layout.{image_of}
use Rattle.block.proofs.Arrays.{put_then, put_whole}
use Rattle.block.proofs.writing.put_image.Goals as goal

pub returns : goal.returns
unfolding image_of
returns c =
    put_whole
    (put_then c.put_head.ensures refl
    (put_then c.put_table.ensures refl
    (put_then c.put_jobs.ensures refl
    (put_then c.put_all.ensures (omega arith)
    (put_then c.put_queue.ensures refl
    (put_then c.put_all-2.ensures (omega arith) c.put_reserved.ensures))))))
    c.told-b
