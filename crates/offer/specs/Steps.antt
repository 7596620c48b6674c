-- What the functions of the offer compute, on the state in memory. Assumes nothing.
use Rattle.std.specs.Prelude.{ℕ, ◌+◌, ◌-◌, ◌*◌, ◌%◌, ◌^◌, min, cond, ◌==◌, nat_le, nat_lt, slice_set, Option, None, Some, Result, Ok, Err}
use Rattle.std.specs.Bool.{then_some}
use Rattle.rules.specs.Lists.{sum}
use Rattle.rules.specs.Tick.{bit}
use Rattle.refusal.specs.declared.Refusal.{Refusal}
use Rattle.refusal.specs.declared.Refusal.TheVariants.{BZero, DUnderB, QueueFull, RoomShort}
use Rattle.state.specs.Meaning.{age_at, entry}
use Rattle.state.specs.declared.Rows.{Rows}
use Rattle.state.specs.declared.State.{State}
use Rattle.offer.specs.declared.room.RowNow.{RowNow}

-- the rows; those from 16 on are not there

-- the row at i, as it stands now
abbrev pub row_now : Rows → State → ℕ → RowNow
row_now rows s i = record {
  c = entry rows.table.c i;
  t = entry rows.table.t i;
  u = entry rows.u i;
  age = age_at rows s i;
  run = then_some (bit s.«open» i) (entry s.run i);
}

-- the open job, by the ticks that it has run: min(C − run, max(0, d − max(0, U − age)))
abbrev pub open_of : RowNow → ℕ → Option ℕ → ℕ
open_of r d None = 0
open_of r d (Some run) = min (r.c - run) (d - (r.u - r.age))

-- the k-th future job: min(C, max(0, d − (wait + U + kT))), with wait, the ticks until the row is rested, max(0, T − age)
abbrev pub future_at : RowNow → ℕ → ℕ → ℕ
future_at r d k = min r.c (d - (r.t - r.age + r.u + k * r.t))

-- all future jobs
abbrev pub future_of : RowNow → ℕ → ℕ
future_of r d = sum d (future_at r d)

-- the open job and the future ones
abbrev pub claim_of : RowNow → ℕ → ℕ
claim_of r d = open_of r d r.run + future_of r d

-- the claim of the row at i
abbrev pub claim_at : Rows → State → ℕ → ℕ → ℕ
claim_at rows s d i = claim_of (row_now rows s i) d

-- of all rows
unfoldable pub claims_of : Rows → State → ℕ → ℕ
claims_of rows s d = sum (min rows.table.n 16) (claim_at rows s d)

-- the firm jobs

-- what the job at i has still to run
abbrev pub unrun_at : State → ℕ → ℕ
unrun_at s i = entry s.budget i - entry s.used i

-- of all of them
unfoldable pub unrun_of : State → ℕ
unrun_of s = sum s.count (unrun_at s)

-- the state with one more firm job, behind the others, and the next ticket
abbrev pub queued_in : State → ℕ → State
queued_in s B = record {
  clock = s.clock;
  next = (s.next + 1) % 2 ^ 32;
  «open» = s.«open»;
  rested = s.rested;
  last = s.last;
  count = s.count + 1;
  run = s.run;
  stamp = s.stamp;
  budget = slice_set s.budget s.count B;
  used = slice_set s.used s.count 0;
  ticket = slice_set s.ticket s.count s.next;
}

-- the offer

-- what is made of an offer: the ticket, or why there is none; and the state after it
pub record OfferMade : Type 0 where
  pub offered : Result ℕ Refusal
  pub state : State

-- a refusal leaves the state as it was
abbrev pub refused_by : Refusal → State → OfferMade
refused_by why s = record { offered = Err why; state = s }

-- an accepted offer is queued
abbrev pub ticket_for : State → ℕ → OfferMade
ticket_for s B = record { offered = Ok s.next; state = queued_in s B }

-- 15, 16, 17, and 18 last; more than 8 firm jobs are too many, as 8 are
unfoldable pub offer_made : Rows → State → ℕ → ℕ → OfferMade
offer_made rows s B d =
    cond (B == 0) (refused_by BZero s)
    (cond (nat_lt d B) (refused_by DUnderB s)
    (cond (nat_le 8 s.count) (refused_by QueueFull s)
    (cond (nat_le (claims_of rows s d + (B + unrun_of s)) d) (ticket_for s B) (refused_by RoomShort s))))
