-- `decode` meets its contract: what is read as a block has its length, and is an image or not. Assumes nothing.
use Rattle.std.proofs.Common.{◌≡◌, length, refl, arith, eq-eqb}
use Rattle.block.specs.Places.{block_bytes}
use Rattle.block.specs.Tests.{decoded_of}
use Rattle.block.proofs.decode.Goals as goal

pub returns-then-not-image_good : goal.returns-then-not-image_good
unfolding decoded_of
returns-then-not-image_good c =
    let long : length c.args.b.now ≡ block_bytes = omega (arith, c.in_ok-block.ensures.variant.0 refl) in
    rw (eq-eqb _ _ long, ← c.in_ok-block.ensures.cases.same, ← c.image_good.ensures, c.if-not-image_good.true)

pub returns : goal.returns
unfolding decoded_of
returns c =
    let long : length c.args.b.now ≡ block_bytes = omega (arith, c.in_ok-block.ensures.variant.0 refl) in
    rw (eq-eqb _ _ long, ← c.in_ok-block.ensures.cases.same, ← c.image_good.ensures, c.if-not-image_good.false, c.rows_at.ensures, c.state_at.ensures)
