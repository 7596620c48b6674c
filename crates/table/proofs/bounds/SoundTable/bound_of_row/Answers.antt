-- `table::bounds::SoundTable::bound_of_row` meets its contract. The invariant: the iteration has come to w after so many rounds, each of which added at least 1, and f(w) is not below w. The measure is how far w is from passing D. Assumes nothing.
use Rattle.std.proofs.Common.{◌≡◌, ◌+◌, sym, ap, ◌∙◌, arith}
use native.Mathlib.Nat.{add-le-add, le_refl}
use Rattle.rules.specs.Bound.{f}
use Rattle.table.specs.Memory.{table_row, above_of}
use Rattle.table.specs.Answers.{bound_of}
use Rattle.table.proofs.Recurrence.{demand_mono, turn_start, turn_passes, turn_repeats, turn_goes_on}
use Rattle.table.proofs.bounds.SoundTable.bound_of_row.Goals as goal
use Rattle.table.proofs.bounds.SoundTable.bound_of_row.Goals.{After-demand}

-- v is f of w

value : (c : After-demand) → c.from-c.result + c.demand.result ≡ f (above_of c.args.self.now.table c.args.i) (table_row c.args.self.now.table c.args.i) c.loop-w.w
value c = cc

pub loop-w-init : goal.loop-w-init
loop-w-init c =
    let a = c.args in
    (omega arith, omega arith, turn_start (above_of a.self.now.table a.i) (table_row a.self.now.table a.i) c.from-c.result c.from-c.ensures)

pub loop-w-preserved : goal.loop-w-preserved
loop-w-preserved c =
    let l = c.loop-w in
    let a = c.args in
    let e = value (goal.at.loop-w-preserved c).After-demand in (
      omega arith,
      rw e (add-le-add (le_refl _) (demand_mono a.self.now.table a.i l.w _ l.invariant.1 (λ j h. c.args.self.now.sound j (omega arith)))),
      l.invariant.2 ∙ turn_goes_on (above_of a.self.now.table a.i) (table_row a.self.now.table a.i) l.rounds l.w _ (omega arith) (omega arith) e c.if-v-w.false,
    )

pub returns-then-v-w : goal.returns-then-v-w
returns-then-v-w c =
    let l = c.loop-w in
    let a = c.args in
    sym (ap bound_of (l.invariant.2 ∙ turn_repeats (above_of a.self.now.table a.i) (table_row a.self.now.table a.i) l.rounds l.w _ (omega arith) (omega arith) (value (goal.at.returns-then-v-w c).After-demand) c.if-v-w.true))

pub returns-then-d-w : goal.returns-then-d-w
returns-then-d-w c =
    let l = c.loop-w in
    let a = c.args in
    sym (ap bound_of (l.invariant.2 ∙ turn_passes (above_of a.self.now.table a.i) (table_row a.self.now.table a.i) l.rounds l.w (omega arith)))
