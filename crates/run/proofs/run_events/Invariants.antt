-- The place is within the events. The measure is what is left of them, since every event lies ahead.
use Rattle.std.proofs.Common.{◌-◌, ◌≤◌, length}
use Rattle.run.proofs.run_events.Given as goal

abbrev pub invariant-loop-event : goal.invariant-loop-event
invariant-loop-event g l = l.at ≤ length l.input.events.now

abbrev pub decreases-loop-event : goal.decreases-loop-event
decreases-loop-event g l = length l.input.events.now - l.at
