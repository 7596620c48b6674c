-- A table that 6 to 10, 21 or 22 refuse is answered with the row, and with where its field stands. Assumes nothing.
use mathlib.Core.Path.{refl}
use lib.ListN.{length}
use borrow.Author.Tests.{eq-eqb}
use Rattle.rules.proofs.Results.{table_promises}
use Rattle.block.specs.Places.{block_bytes}
use Rattle.board.specs.Blocks.{plan_block}
use Rattle.board.specs.Promises.{RowNamed}

pub row_named : RowNamed
unfolding plan_block
row_named b file long bytes fs is_whole x is_refused =
    let (f, here, from, size, is_read, shown) = table_promises.shows_row file bytes fs is_whole x is_refused in
    (f, here, from, size, is_read, rw (eq-eqb (length b) block_bytes long, is_whole, is_refused, is_read) refl, shown)
