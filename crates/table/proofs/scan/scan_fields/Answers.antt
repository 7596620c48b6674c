-- `table::scan::scan_fields` meets its contract. The invariant: the scan of the whole file is n rows and the scan of what is left. The measure is how many fields may come. Assumes nothing.
use Rattle.std.proofs.Common.{◌≡◌, ◌-◌, sym, ap, ◌∙◌, arith, length, drop, length-drop}
use Rattle.std.specs.Prelude.{Ok}
use Rattle.std.proofs.lemmas.Result.{err_from_is_err_and}
use lib.Dec.{eqb}
use lib.Seq.{take_all}
use Rattle.table.specs.Answers.{next_field}
use Rattle.table.proofs.Fields.{row_fits, row_turn, bad_turn, end_turn, after_end_turn}
use Rattle.table.proofs.scan.scan_fields.Goals as goal
use Rattle.table.proofs.scan.scan_fields.Goals.{After-field_of}

-- the field that was read, as the rules have it

field : (c : After-field_of) → next_field (eqb c.loop-size.n 16) c.loop-size.at (drop c.loop-size.at c.args.s.now) ≡ c.field_of.result
field c =
    let l = c.loop-size in
    let s = c.args.s.now in
    sym (c.field_of.ensures ∙ ap (next_field (eqb l.n 16) l.at) (take_all (length s - l.at) (drop l.at s) (omega (arith, length-drop l.at s))))

pub overflow_add-at : goal.overflow_add-at
overflow_add-at c =
    let l = c.loop-size in
    let e = field (goal.at.overflow_add-at c).After-field_of ∙ c.in_ok-size.was ∙ ap Ok c.in-Some.is in
    omega (arith, (row_fits c.args.s.now l.at l.n e l.invariant.0 l.invariant.1).1)

pub loop-size-preserved : goal.loop-size-preserved
loop-size-preserved c =
    let l = c.loop-size in
    let s = c.args.s.now in
    let e = field (goal.at.loop-size-preserved c).After-field_of ∙ c.in_ok-size.was ∙ ap Ok c.in-Some.is in
    let h = row_fits s l.at l.n e l.invariant.0 l.invariant.1 in
    (omega (arith, h.0), omega (arith, h.1), row_turn s l.at l.n l.invariant.0 _ l.invariant.2 e h.0)

pub returns-in_err-size : goal.returns-in_err-size
returns-in_err-size c =
    let l = c.loop-size in
    let p = err_from_is_err_and c.from_residual.result c.from_residual.ensures.1 in
    rw (p.1, p.2) (sym (bad_turn c.args.s.now l.at l.n l.invariant.0 _ l.invariant.2 (field (goal.at.returns-in_err-size c).After-field_of ∙ c.in_err-size.was)))

pub returns-then-end-s : goal.returns-then-end-s
returns-then-end-s c =
    let l = c.loop-size in
    let e = field (goal.at.returns-then-end-s c).After-field_of ∙ c.in_ok-size.was ∙ ap Ok c.in_default.is in
    simp c.shown.ensures (sym (after_end_turn c.args.s.now l.at l.n l.invariant.0 _ l.invariant.2 e c.if-end-s.true))

pub returns : goal.returns
returns c =
    let l = c.loop-size in
    let e = field (goal.at.returns c).After-field_of ∙ c.in_ok-size.was ∙ ap Ok c.in_default.is in
    sym (end_turn c.args.s.now l.at l.n l.invariant.0 _ l.invariant.2 e c.if-end-s.false)
