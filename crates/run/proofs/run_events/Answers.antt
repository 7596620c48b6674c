-- Each event lies ahead of its place, which is the reader's.
use Rattle.std.proofs.Common.{◌≤◌, ◌<◌, Ok, arith, ap, length}
use Rattle.event.proofs.Ahead.{next_ahead}
use Rattle.run.proofs.run_events.Given.{Over}
use Rattle.run.proofs.run_events.Goals as goal

ahead : (g : Over) (c : goal.In_ok-called-in-Ok-Some g)
    → (c.loop-event.at < c.in-Ok-Some.event.next) × (c.in-Ok-Some.event.next ≤ length c.args.input.events.now)
ahead g c =
    let reader = c.reader_at.result in
    let whole = ap (λ s. length s.now) c.reader_at.ensures.0 in
    let read = next_ahead reader.bytes.now reader.at c.in-Ok-Some.event (omega (arith, whole, c.reader_at.ensures.1, c.loop-event.invariant))
    c.in-Ok-Some.ensures (ap Ok c.in-Ok-Some.field-0-is) in
    (omega (arith, read, c.reader_at.ensures.1), omega (arith, read, whole))

pub loop-event-smaller : goal.loop-event-smaller
loop-event-smaller g c = omega (arith, ahead g c)

pub loop-event-preserved : goal.loop-event-preserved
loop-event-preserved g c = omega (arith, ahead g c)
