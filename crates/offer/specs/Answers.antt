-- The offer's answer in memory beside document 01's: every case of it, and what the offer in memory has to do with the rules' one. Assumes nothing.
use Rattle.std.specs.Prelude.{◌≡◌, ℕ, Result, Ok, Err}
use Rattle.rules.specs.Offer as rules
use Rattle.refusal.specs.Refusals.{refusal_of}
use Rattle.refusal.specs.declared.Refusal.{Refusal}
use Rattle.state.specs.Meaning.{Stored, station_of}
use Rattle.state.specs.declared.Rows.{Rows}
use Rattle.state.specs.declared.State.{State}
use Rattle.offer.specs.Steps.{OfferMade}

-- a ticket, or the refusal
abbrev pub offered_of : rules.Offered → Result ℕ Refusal
offered_of (rules.accepted st t) = Ok t
offered_of (rules.no_offer why) = Err (refusal_of why)

-- what was made of an offer is what the rules make of it: the ticket and a stored state that means the station after it, or the refusal and the state untouched
abbrev pub OfferIs : Rows → State → OfferMade → rules.Offered → Type 0
OfferIs rows s made (rules.accepted st t) = (made.offered ≡ Ok t) × (station_of rows made.state ≡ st) × Stored rows made.state
OfferIs rows s made (rules.no_offer why) = (made.offered ≡ Err (refusal_of why)) × (made.state ≡ s)
