-- What the steps of the tick compute on the arrays, close to the code. Assumes nothing.
use Rattle.std.specs.Prelude.{ℕ, ◌+◌, ◌-◌, ◌%◌, ◌^◌, Bool, true, false, cond, ◌&&◌, List, [], ◌∷◌, Option, None, Some, set, slice_index_or, bit_and, bit_or, nat_le, nat_lt}
use Rattle.std.specs.Bool.{then_some}
use Rattle.std.specs.Option.{option_map_or}
use Rattle.state.specs.declared.Last.{Last}
use Rattle.state.specs.declared.Last.TheVariants.{Hard, Firm, Nobody}
use Rattle.state.specs.declared.Rows.{Rows}
use Rattle.state.specs.declared.State.{State}
use Rattle.state.specs.Meaning.{entry}
use Rattle.state.specs.Sets.{known, least, others}
use Rattle.answer.specs.declared.Answer.{Answer}
use Rattle.answer.specs.declared.Band.TheVariants.{Upper, Lower}
use Rattle.answer.specs.declared.Closing.{Closing}
use Rattle.answer.specs.declared.Closing.TheVariants.{Nothing, Hard, Firm}
use Rattle.answer.specs.declared.How.{How}
use Rattle.answer.specs.declared.How.TheVariants.{Done, Spent}
use Rattle.answer.specs.declared.Notes.{Notes}
use Rattle.answer.specs.declared.Runner.{Runner}
use Rattle.answer.specs.declared.Runner.TheVariants.{Hard, Firm, Soft, Idle}
use Rattle.dispatch.specs.declared.sets.Best.{Best}
use Rattle.dispatch.specs.Loops.{aged_at, fold_rows, low_at, marked, rows_that, upto}

-- the state with these in place of its clock, open rows, rested rows and stamps
abbrev pub retimed : State → ℕ → ℕ → ℕ → List ℕ → State
retimed s clock o rested stamp = record {
  clock = clock;
  next = s.next;
  «open» = o;
  rested = rested;
  last = s.last;
  count = s.count;
  run = s.run;
  stamp = stamp;
  budget = s.budget;
  used = s.used;
  ticket = s.ticket;
}

-- the state with these in place of its open rows, last runner, ticks run and firm jobs
abbrev pub reworked : State → ℕ → Last → List ℕ → ℕ → List ℕ → List ℕ → List ℕ → State
reworked s o last run count budget used ticket = record {
  clock = s.clock;
  next = s.next;
  «open» = o;
  rested = s.rested;
  last = last;
  count = count;
  run = run;
  stamp = s.stamp;
  budget = budget;
  used = used;
  ticket = ticket;
}

-- 1. Close

-- how a job closes, if it does: as done with the flag, else as spent if it is fully run
abbrev pub closes_in : Bool → ℕ → ℕ → Option How
closes_in d run ticks = cond d (Some Done) (then_some (nat_le ticks run) Spent)

-- what closes where this is the job that ran last; a row of 16 or more counts as nobody
unfoldable pub closing_after : Rows → State → Bool → Last → Closing
closing_after rows s d (Hard i) = cond (nat_lt i 16) (option_map_or (Hard i) (closes_in d (entry s.run i) (entry rows.table.c i)) Nothing) Nothing
closing_after rows s d Firm = option_map_or (Firm (entry s.ticket 0)) (closes_in d (entry s.used 0) (entry s.budget 0)) Nothing
closing_after rows s d Nobody = Nothing

-- what closes: the job that ran last
abbrev pub closing_in : Rows → State → Bool → Closing
closing_in rows s d = closing_after rows s d s.last

-- the row at i without its job
abbrev pub shut_row : State → ℕ → State
shut_row s i =
    cond (nat_lt i 16) (reworked s (bit_and s.«open» (others (2 ^ i))) s.last (set s.run i 0) s.count s.budget s.used s.ticket) s

-- an array of eight without its first element, and d at its end
abbrev pub shifted_in : {A : Type 0} → A → List A → List A
shifted_in d a =
    slice_index_or a 1 d ∷ slice_index_or a 2 d ∷ slice_index_or a 3 d ∷ slice_index_or a 4 d ∷ slice_index_or a 5 d ∷ slice_index_or a 6 d ∷ slice_index_or a 7 d ∷ d ∷ []

-- an array of eight numbers without its first
abbrev pub shifted : List ℕ → List ℕ
shifted a = shifted_in 0 a

-- the queue without its first job
abbrev pub popped : State → State
popped s = reworked s s.«open» s.last s.run (s.count - 1) (shifted s.budget) (shifted s.used) (shifted s.ticket)

-- the state after that closing
abbrev pub closed_by : State → Closing → State
closed_by s Nothing = s
closed_by s (Hard i how) = shut_row s i
closed_by s (Firm t how) = popped s

-- 2. Release

-- each row of the set has a job, stamped now
abbrev pub released_by : State → ℕ → State
released_by s set = retimed s s.clock (bit_or s.«open» set) (bit_and s.rested (others set)) (upto (marked set s.clock) 16 s.stamp)

-- 3. Choose

-- open, and rested or U ticks old
abbrev pub promoted_rows : Rows → State → ℕ
promoted_rows rows s = bit_and s.«open» (bit_or s.rested (rows_that (aged_at rows.u s.stamp s.clock) 16))

-- the best of the open rows, or idle
abbrev pub lower_of : Option Best → Runner
lower_of None = Idle
lower_of (Some best) = Hard best.row Lower

-- the first that exists
abbrev pub chosen_in : Rows → State → Bool → Runner
chosen_in rows s soft =
    let upper = least (promoted_rows rows s) in
    cond (nat_lt upper 16) (Hard upper Upper)
    (cond (nat_lt 0 s.count) (Firm (entry s.ticket 0))
    (cond soft Soft (lower_of (fold_rows (low_at rows.table.rank s.«open») 0 16 None))))

-- 4. Run

-- one more, as far as the width goes
abbrev pub bumped : ℕ → ℕ
bumped x = cond (nat_lt x 65535) (x + 1) x

-- the job of the row at i ran
abbrev pub ran_row : State → ℕ → State
ran_row s i = cond (nat_lt i 16) (reworked s s.«open» (Hard i) (set s.run i (bumped (entry s.run i))) s.count s.budget s.used s.ticket) s

-- the first firm job ran
abbrev pub ran_first : State → State
ran_first s = reworked s s.«open» Firm s.run s.count s.budget (set s.used 0 (bumped (entry s.used 0))) s.ticket

-- no job ran
abbrev pub ran_none : State → State
ran_none s = reworked s s.«open» Nobody s.run s.count s.budget s.used s.ticket

-- the runner ran
abbrev pub ran_in : State → Runner → State
ran_in s (Hard i band) = ran_row s i
ran_in s (Firm t) = ran_first s
ran_in s Soft = ran_none s
ran_in s Idle = ran_none s

-- one more, modulo 2^32
abbrev pub next_clock : State → ℕ
next_clock s = (s.clock + 1) % 2 ^ 32

-- the rows rested at the next tick
abbrev pub rested_next : Rows → State → ℕ
rested_next rows s = bit_or s.rested (bit_and (rows_that (aged_at rows.table.t s.stamp (next_clock s)) 16) (known rows.table.n))

-- the clock advances: marks and stamps follow
abbrev pub advanced : Rows → State → State
advanced rows s = retimed s (next_clock s) s.«open» (rested_next rows s) (upto (marked (rested_next rows s) 0) 16 s.stamp)

-- the tick

-- the answer to a tick, and the state after it
pub record Ticked : Type 0 where
  pub answer : Answer
  pub state : State

-- the rows of a set that are there
abbrev pub asked_in : Rows → ℕ → ℕ
asked_in rows set = bit_and set (known rows.table.n)

-- the rows that have a job open, or aren't rested
abbrev pub unready_in : State → ℕ
unready_in s = bit_or s.«open» (others s.rested)

-- the rows of a set that are there and ready
abbrev pub ready_in : Rows → State → ℕ → ℕ
ready_in rows s set = bit_and (asked_in rows set) (others (unready_in s))

-- no job ran last, or none of a row below 16
abbrev pub nobody_ran : Last → Bool
nobody_ran (Hard i) = nat_le 16 i
nobody_ran Firm = false
nobody_ran Nobody = true

-- what is noted, where the closing has made t of s
abbrev pub notes_in : Rows → State → State → ℕ → Bool → Notes
notes_in rows s t set d = record {
  unknown = bit_and set (others (known rows.table.n));
  none_ran = d && nobody_ran s.last;
  not_ready = bit_and (asked_in rows set) (unready_in t);
}

-- 2 to 4, once the last job is closed
unfoldable pub stepped_in : Rows → State → ℕ → Bool → Closing → Notes → Ticked
stepped_in rows s set soft closing notes =
    let runner = chosen_in rows (released_by s set) soft in record {
      answer = record { clock = s.clock; runner = runner; closing = closing; notes = notes };
      state = advanced rows (ran_in (released_by s set) runner);
    }

-- 1 to 4
unfoldable pub tick_in : Rows → State → ℕ → Bool → Bool → Ticked
tick_in rows s set d soft =
    let closing = closing_in rows s d in
    let t = closed_by s closing in
    stepped_in rows t (ready_in rows t set) soft closing (notes_in rows s t set d)
