-- A state in memory beside the rules' station in the middle of a tick: all but the last runner. Assumes nothing.
use Rattle.std.proofs.Common.{◌≡◌, ℕ, List}
use Rattle.rules.specs.Station.{Firm, Last, Slot, Station}
use Rattle.state.specs.declared.Rows.{Rows}
use Rattle.state.specs.declared.State.{State}
use Rattle.state.specs.Meaning.{firms_of, last_of, slots_of, station_of}

pub record Agrees (rows : Rows) (s : State) (st : Station) : Type 0 where
  pub clock_is : s.clock ≡ st.clock
  pub slots_is : slots_of rows s ≡ st.slots
  pub firms_is : firms_of s ≡ st.firms
  pub next_is : s.next ≡ st.next

-- with the last runner it is the station
pub station_is : (rows : Rows) (s : State) (clock : ℕ) (ss : List Slot) (fs : List Firm) (next : ℕ) (last : Last)
    → s.clock ≡ clock → slots_of rows s ≡ ss → firms_of s ≡ fs → s.next ≡ next → last_of s ≡ last
    → station_of rows s ≡ record { clock = clock; slots = ss; firms = fs; next = next; last = last }
unfolding station_of
station_is rows s clock ss fs next last c a b n l = λ i. record { clock = c i; slots = a i; firms = b i; next = n i; last = l i }
