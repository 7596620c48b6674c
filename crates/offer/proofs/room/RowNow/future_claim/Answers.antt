-- `offer::room::RowNow::future_claim` meets its contract: each future job adds what it claims, and from the first one past the window on they claim nothing. Assumes nothing.
use Rattle.std.proofs.Common.{◌∙◌, ◌*◌, sym, ap, add-one, arith}
use Rattle.offer.proofs.Bounds.{future_stops}
use Rattle.offer.proofs.room.RowNow.future_claim.Goals as goal

pub returns-then-window-at : goal.returns-then-window-at
returns-then-window-at c =
    let l = c.loop-k in
    let a = c.args in
    l.invariant ∙ sym (future_stops a.self a.d l.k (omega arith) (omega (arith, ap (λ t. l.k * t) c.from-period.ensures)))

pub loop-k-preserved : goal.loop-k-preserved
loop-k-preserved c =
    let l = c.loop-k in
    rw (add-one l.k) (omega (arith, l.invariant, ap (λ t. l.k * t) c.from-period.ensures))
