-- `table::bounds::SoundTable::plan` meets its contract. The invariant: the first i rows are planned. Assumes nothing.
use Rattle.std.proofs.Common.{refl, sym, ◌∙◌, arith}
use Rattle.std.proofs.lemmas.Result.{err_from_is_err_and}
use Rattle.table.proofs.Plans.{bounded, one_more_planned, bound_fails, all_planned}
use Rattle.table.proofs.bounds.SoundTable.plan.Goals as goal

pub loop-i-preserved : goal.loop-i-preserved
loop-i-preserved c =
    let l = c.loop-i in
    let b = bounded c.args.self.now.table l.i (sym c.row_bound.ensures ∙ c.in_ok-bound.was) in
    one_more_planned c.args.self.now.table l.i l.r l.u l.rounds l.invariant (omega arith) c.args.self.now.few b.0 b.1 refl

pub returns-in_err-bound : goal.returns-in_err-bound
returns-in_err-bound c =
    let l = c.loop-i in
    let p = err_from_is_err_and c.from_residual.result c.from_residual.ensures.1 in
    rw (p.1, p.2) (sym (bound_fails c.args.self.now.table l.i l.r l.u l.rounds l.invariant (omega arith) (sym c.row_bound.ensures ∙ c.in_err-bound.was)))

pub returns : goal.returns
returns c =
    let l = c.loop-i in
    all_planned c.args.self.now.table l.i l.r l.u l.rounds l.invariant (omega arith)
