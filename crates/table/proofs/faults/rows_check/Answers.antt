-- `table::faults::rows_check` meets its contract. The invariant: the checks of all rows come to those from row i on. Assumes nothing.
use Rattle.std.proofs.Common.{sym, ap, ◌∙◌, arith}
use Rattle.table.specs.Answers.{rows_pass}
use Rattle.table.proofs.Checks.{row_passed, row_failed}
use Rattle.table.proofs.faults.rows_check.Goals as goal

pub loop-i-preserved : goal.loop-i-preserved
loop-i-preserved c =
    c.loop-i.invariant ∙ row_passed c.args.rows c.loop-i.i (omega arith) (sym c.field_check.ensures ∙ c.in_default.is)

pub returns-in-Err : goal.returns-in-Err
returns-in-Err c =
    sym (ap rows_pass c.loop-i.invariant ∙ row_failed c.args.rows c.loop-i.i (omega arith) (sym c.field_check.ensures ∙ c.in-Err.is))
