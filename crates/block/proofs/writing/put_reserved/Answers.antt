-- `writing::put_reserved` meets its contract: the rest of the block is filled with 0. Assumes nothing.
use Rattle.std.proofs.Common.{◌≡◌, ℕ, ◌∙◌, ap, replicate, refl, arith}
use lib.ListN.{length-replicate}
use Rattle.block.specs.Places.{block_bytes, reserved_at, reserved_bytes}
use Rattle.block.specs.Layout.{reserved}
use Rattle.block.proofs.Arrays.{put_part}
use Rattle.block.proofs.Ors.{part_long}
use Rattle.block.proofs.writing.put_reserved.Goals as goal

pub returns : goal.returns
unfolding reserved
returns c =
    let filled : c.fill.new.self ≡ replicate reserved_bytes 0 = c.fill.ensures.after (λ y e. e) ∙ ap (λ n. replicate n 0) (part_long c.args.b.now reserved_at reserved_bytes (omega arith)) in
    rw filled (put_part c.args.b.now (replicate reserved_bytes 0) reserved_at reserved_bytes block_bytes (length-replicate {A = ℕ} reserved_bytes 0) refl (omega arith))
