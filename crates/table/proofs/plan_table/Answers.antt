-- `table::plan_table` meets its contract: 5, then the plan of rows that have no tags. Assumes nothing.
use Rattle.std.proofs.Common.{refl, sym, ap, ◌∙◌, arith}
use lib.ListN.{replicate}
use Rattle.rules.specs.File.{row_tag}
use Rattle.table.specs.Memory.{table_row, rows_of}
use Rattle.table.specs.Answers.{planning_of}
use Rattle.table.specs.declared.row.FileRows.{FileRows}
use Rattle.table.proofs.Places.{length_indexed}
use Rattle.table.proofs.Files.{plan_memory}
use Rattle.table.proofs.Verdicts.{plan_many, plan_few}
use Rattle.table.proofs.plan_table.Goals as goal

pub returns-then-tb-gt16 : goal.returns-then-tb-gt16
returns-then-tb-gt16 c =
    let tb = c.args.tb in
    plan_many (rows_of tb) (omega (arith, length_indexed (table_row tb) 0 tb.n))

pub returns : goal.returns
returns c =
    let tb = c.args.tb in
    let rows : FileRows = record { table = tb; tag = replicate 16 row_tag; few = omega arith } in
    c.plan_fields.ensures ∙ ap planning_of (plan_memory rows refl ∙ sym (plan_few (rows_of tb) (omega (arith, length_indexed (table_row tb) 0 tb.n))))
