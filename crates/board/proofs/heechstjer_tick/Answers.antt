-- `board::heechstjer_tick` meets its contract: the rows of the answer are below 16, and the block after a tick is the one before it with the state after the tick. Assumes nothing.
use Rattle.std.proofs.Common.{◌≡◌, ℕ, ◌<◌, Bool, List, Some, ◌∙◌, ap}
use borrow.Author.Tests.{lt-leb}
use Rattle.rules.specs.Calls.{done_flag, soft_flag}
use Rattle.dispatch.specs.Steps.{tick_in}
use Rattle.dispatch.proofs.NamedRows.{answer_below}
use Rattle.block.specs.Layout.{written_on}
use Rattle.block.specs.Tests.{decoded_of}
use Rattle.block.specs.declared.Decoded.{Decoded}
use Rattle.board.specs.Blocks.{tick_block}
use Rattle.board.proofs.heechstjer_tick.Goals as goal

written : (b : List ℕ) (set flags : ℕ) (x : Decoded) (done soft : Bool)
    → flags < 4
    → Some x ≡ decoded_of b
    → done ≡ done_flag flags
    → soft ≡ soft_flag flags
    → written_on b (tick_in x.rows x.state set done soft).state ≡ (tick_block b set flags).block
unfolding tick_block
written b set flags x done soft known image e f = rw (lt-leb _ _ known, ← image, e, f)

pub stepped_tick-requires : goal.stepped_tick-requires
stepped_tick-requires c = answer_below _ _ _ _ _ c.tick-answer.ensures.value

pub returns-clause-block_after : goal.returns-clause-block_after
returns-clause-block_after c =
    let a = c.args in
    c.write_state.ensures
    ∙ ap (written_on a.block.now) c.tick-answer.ensures.state_after
    ∙ written a.block.now a.set a.flags c.in-Some.decoded c.done_flag.result c.soft_flag.result c.if-flags-ge4.false c.in-Some.ensures c.done_flag.ensures c.soft_flag.ensures
