-- `dispatch::sets::stamped` meets its contract. One stamp after the other. Assumes nothing.
use Rattle.std.proofs.Common.{sym, ◌∙◌, arith}
use Rattle.dispatch.specs.Loops.{marked}
use Rattle.dispatch.proofs.Loops.{upto_next, upto_none}
use Rattle.dispatch.proofs.sets.stamped.Goals as goal
use Rattle.dispatch.proofs.sets.stamped.Goals.{then-has, else-has}

pub loop-i-init : goal.loop-i-init
loop-i-init c = sym (upto_none _ _)

pub loop-i-preserved : goal.loop-i-preserved
loop-i-preserved c =
    upto_next (marked c.from-rows.result c.args.v) c.loop-i.i c.args.stamp _ _ 0 c.loop-i.invariant
    (elim c.if-has.branch [ then-has w ↦ rw (w.x-is, sym c.has.ensures ∙ w.if-has.true) | else-has w ↦ rw (w.x-is, sym c.has.ensures ∙ w.if-has.false) ])
    (omega arith)
