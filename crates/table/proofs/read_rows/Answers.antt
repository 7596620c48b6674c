-- `table::read_rows` meets its contract: what is read by what planning says. Assumes nothing.
use Rattle.std.proofs.Common.{List, ◌≡◌, sym, ap, ◌∙◌}
use Rattle.std.specs.Prelude.{Err}
use Rattle.rules.specs.File.{Field, plan_fields}
use Rattle.table.specs.Walk.{fields_in}
use Rattle.table.specs.Answers.{planning_of}
use Rattle.table.specs.declared.FileRefusal.{FileRefusal}
use Rattle.table.proofs.Verdicts.{failed_row, failed_read, passed_read}
use Rattle.table.proofs.read_rows.Goals as goal
use Rattle.table.proofs.read_rows.Goals.{After-plan_fields}

-- what planning makes of the fields

planned : (c : After-plan_fields) → planning_of (plan_fields (fields_in c.args.file.bytes.now c.args.file.n)) ≡ c.plan_fields.result
planned c = sym (c.plan_fields.ensures ∙ ap (λ (fs : List Field). planning_of (plan_fields fs)) c.rows-rows.ensures.fields)

pub refusal-requires : goal.refusal-requires
refusal-requires c = failed_row c.args.file.bytes.now c.args.file.n c.args.file.stand (planned (goal.at.refusal-requires c).After-plan_fields ∙ c.in-Err.is)

pub returns-in-Err : goal.returns-in-Err
returns-in-Err c =
    ap (λ (x : FileRefusal). Err x) c.refusal.ensures
    ∙ failed_read c.args.file.bytes.now c.args.file.n c.args.file.stand (planned (goal.at.returns-in-Err c).After-plan_fields ∙ c.in-Err.is)

pub returns-in-Ok : goal.returns-in-Ok
returns-in-Ok c =
    passed_read c.args.file.bytes.now c.args.file.n c.args.file.stand c.rows-rows.result.table c.rows-rows.ensures.table
    (planned (goal.at.returns-in-Ok c).After-plan_fields ∙ c.in-Ok.is)
