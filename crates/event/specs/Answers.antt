-- What each answer of the code says in document 01's words: every case, with its values. Assumes nothing.
use Rattle.std.specs.Prelude.{ℕ, ◌+◌, cond, List, Option, Some, None, Result, Ok, Err}
use Rattle.rules.specs.Calls as rules
use Rattle.rules.specs.Calls.{done_flag, other_flag, soft_flag, offer_call, tick_call}
use Rattle.rules.specs.Fields.{byte, word}
use Rattle.rules.specs.Events as events
use Rattle.rules.specs.Events.{bad_event, event, no_more}
use Rattle.refusal.specs.Refusals.{refusal_of}
use Rattle.refusal.specs.declared.Refusal.{Refusal}
use Rattle.refusal.specs.declared.Refusal.TheVariants.{UnknownFlag}
use Rattle.event.specs.declared.BadEvent.{BadEvent}
use Rattle.event.specs.declared.Call.{Call}
use Rattle.event.specs.declared.Event.{Event}

-- a call: a tick with its flags one by one, or an offer
abbrev pub call_of : rules.Call → Call
call_of (tick_call set flags) = Call.Tick set (done_flag flags) (soft_flag flags)
call_of (offer_call B d) = Call.Offer B d

-- the call of a whole tick field, or 20
abbrev pub tick_called : List ℕ → Result Call Refusal
tick_called s = cond (other_flag (byte s 5)) (Err UnknownFlag) (Ok (call_of (tick_call (word s 3) (byte s 5))))

-- the call of a whole offer field
abbrev pub offer_called : List ℕ → Call
offer_called s = call_of (offer_call (word s 3) (word s 5))

-- a call at the place at, and the place after its field
abbrev pub event_at : ℕ → rules.Call → ℕ → Event
event_at at call size = record { call = call_of call; next = at + size }

-- a refusal at the place at: why, and the part that is shown
abbrev pub bad_at : ℕ → Refusal → ℕ → BadEvent
bad_at at why size = record { why = why; part = record { from = at; size = size } }

-- what stands at the place at: a call, or nothing, where the events end; or why it is refused
abbrev pub event_of : ℕ → events.Event → Result (Option Event) BadEvent
event_of at (event call size) = Ok (Some (event_at at call size))
event_of at no_more = Ok None
event_of at (bad_event why size) = Err (bad_at at (refusal_of why) size)

-- the place after the event at the place at; at the end and at a refused field there is none, and the place stays
abbrev pub place_after : ℕ → events.Event → ℕ
place_after at (event call size) = at + size
place_after at no_more = at
place_after at (bad_event why size) = at
