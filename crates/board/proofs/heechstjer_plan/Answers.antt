-- `board::heechstjer_plan` meets its contract, by what is read of the file. Assumes nothing.
use Rattle.std.proofs.Common.{rules, sym, ap, ap₂, ◌∙◌, Ok, Err}
use Rattle.block.specs.Layout.{image_of}
use Rattle.board.proofs.AsRead.{encoded_whole, planned_as_read}
use Rattle.board.proofs.heechstjer_plan.Goals as goal

pub returns-in-Err-clause-value : goal.returns-in-Err-clause-value
returns-in-Err-clause-value c =
    let a = c.args in
    c.refused_plan-in-Err.ensures ∙ sym (ap (λ o. o.answer) (planned_as_read a.block.now a.table.now c.if-block-ne-BLOCK_BYTES.false (Err _) (sym c.in-Err.is ∙ c.read_table.ensures)))

pub returns-in-Err-clause-block_after : goal.returns-in-Err-clause-block_after
returns-in-Err-clause-block_after c =
    let a = c.args in
    sym (ap (λ o. o.block) (planned_as_read a.block.now a.table.now c.if-block-ne-BLOCK_BYTES.false (Err _) (sym c.in-Err.is ∙ c.read_table.ensures)))

pub returns-in-Ok-clause-value : goal.returns-in-Ok-clause-value
returns-in-Ok-clause-value c =
    let a = c.args in
    let w = planned_as_read a.block.now a.table.now c.if-block-ne-BLOCK_BYTES.false (Ok _) (sym c.in-Ok.is ∙ c.read_table.ensures) in
    rw w (search rules)

pub returns-in-Ok-clause-block_after : goal.returns-in-Ok-clause-block_after
returns-in-Ok-clause-block_after c =
    let a = c.args in
    let w = planned_as_read a.block.now a.table.now c.if-block-ne-BLOCK_BYTES.false (Ok _) (sym c.in-Ok.is ∙ c.read_table.ensures) in
    c.encode.ensures
    ∙ encoded_whole a.block.now _ _ c.if-block-ne-BLOCK_BYTES.false
    ∙ ap₂ image_of c.planned_rows.ensures c.fresh_state-fresh.ensures
    ∙ sym (ap (λ o. o.block) w)
