-- `table::write_table` meets its contract: what is written by what planning says. Assumes nothing.
use Rattle.std.proofs.Common.{sym, ap, ◌∙◌, arith}
use Rattle.std.proofs.lemmas.Result.{err_from_is_err_and}
use Rattle.rules.specs.File.{file_bytes}
use Rattle.table.specs.Memory.{table_row, rows_of}
use Rattle.table.specs.Answers.{plan_or_refuse, written_of, output_after}
use Rattle.table.proofs.Places.{length_indexed}
use Rattle.table.proofs.Verdicts.{write_plans, failed_written, passed_written, passed_few}
use Rattle.table.proofs.write_table.Goals as goal

pub put_table-requires : goal.put_table-requires
put_table-requires c =
    let tb = c.args.tb in
    omega (arith, length_indexed (table_row tb) 0 tb.n, passed_few (rows_of tb) (sym c.plan_table.ensures ∙ c.in_ok-plan_table.was))

pub returns-in_err-plan_table-clause-value : goal.returns-in_err-plan_table-clause-value
returns-in_err-plan_table-clause-value c =
    let a = c.args in
    let rs = rows_of a.tb in
    let p = err_from_is_err_and c.from_residual.result c.from_residual.ensures.1 in
    let h = failed_written (plan_or_refuse rs) (file_bytes rs) a.out.now (sym c.plan_table.ensures ∙ c.in_err-plan_table.was) in
    rw (p.1, p.2) (h.0 ∙ ap written_of (sym (write_plans rs a.out.now)))

pub returns-in_err-plan_table-clause-out_after : goal.returns-in_err-plan_table-clause-out_after
returns-in_err-plan_table-clause-out_after c =
    let a = c.args in
    let rs = rows_of a.tb in
    let h = failed_written (plan_or_refuse rs) (file_bytes rs) a.out.now (sym c.plan_table.ensures ∙ c.in_err-plan_table.was) in
    h.1 ∙ ap (output_after a.out.now) (sym (write_plans rs a.out.now))

pub returns-clause-value : goal.returns-clause-value
returns-clause-value c =
    let a = c.args in
    let rs = rows_of a.tb in
    c.put_table.ensures.value ∙ ap written_of (passed_written (plan_or_refuse rs) (file_bytes rs) a.out.now (sym c.plan_table.ensures ∙ c.in_ok-plan_table.was) ∙ sym (write_plans rs a.out.now))

pub returns-clause-out_after : goal.returns-clause-out_after
returns-clause-out_after c =
    let a = c.args in
    let rs = rows_of a.tb in
    c.put_table.ensures.out_after ∙ ap (output_after a.out.now) (passed_written (plan_or_refuse rs) (file_bytes rs) a.out.now (sym c.plan_table.ensures ∙ c.in_ok-plan_table.was) ∙ sym (write_plans rs a.out.now))
