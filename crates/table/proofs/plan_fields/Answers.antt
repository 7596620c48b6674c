-- `table::plan_fields` meets its contract: what the checks of rows say, then the plan. Assumes nothing.
use Rattle.std.proofs.Common.{ℕ, [], ◌≡◌, sym, ap, ◌∙◌, length}
use Rattle.std.proofs.lemmas.Result.{err_from_is_err_and}
use Rattle.rules.specs.Bound.{plan_rows}
use Rattle.rules.specs.File.{fields_fault}
use Rattle.table.specs.Memory.{field_at, fields_of}
use Rattle.table.specs.Answers.{rows_pass, planning_of}
use Rattle.table.proofs.Places.{length_indexed}
use Rattle.table.proofs.Checks.{none_sound}
use Rattle.table.proofs.Files.{rows_fields}
use Rattle.table.proofs.Verdicts.{fault_passed, plan_passed, plan_failed}
use Rattle.table.proofs.plan_fields.Goals as goal
use Rattle.table.proofs.plan_fields.Goals.{After-rows_check}

-- the checks, of as many rows as there are fields

checked : (c : After-rows_check) → let fs = fields_of c.args.rows in rows_pass (fields_fault (length fs) [] 0 fs) ≡ c.rows_check.result
checked c =
    let rows = c.args.rows in
    ap (λ (n : ℕ). rows_pass (fields_fault n [] 0 (fields_of rows))) (length_indexed (field_at rows) 0 rows.table.n) ∙ sym c.rows_check.ensures

pub returns-in_err-rows_check : goal.returns-in_err-rows_check
returns-in_err-rows_check c =
    let p = err_from_is_err_and c.from_residual.result c.from_residual.ensures.1 in
    rw (p.1, p.2) (sym (plan_failed (fields_of c.args.rows) (checked (goal.at.returns-in_err-rows_check c).After-rows_check ∙ c.in_err-rows_check.was)))

pub invariant_of-plan : goal.invariant_of-plan
invariant_of-plan c =
    record { few = c.args.rows.few; sound = none_sound c.args.rows (fault_passed _ (sym c.rows_check.ensures ∙ c.in_ok-rows_check.was)) }

pub returns : goal.returns
returns c =
    let rows = c.args.rows in
    let fine = fault_passed _ (checked (goal.at.returns c).After-rows_check ∙ c.in_ok-rows_check.was) in
    c.plan.ensures ∙ ap planning_of (sym (plan_passed (fields_of rows) fine ∙ ap (plan_rows [] 0) (rows_fields rows)))
