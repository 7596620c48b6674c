-- What the arrays mean: the rules' station that a state in memory stands for, and what the arrays keep to. Assumes nothing.
use Rattle.std.specs.Prelude.{◌≡◌, ℕ, zero, suc, ◌+◌, ◌-◌, ◌%◌, ◌^◌, ◌<◌, ◌≤◌, true, false, cond, List, [], ◌∷◌, map, length, nat_lt, slice_index}
use Rattle.rules.specs.Bound.{PlannedRow}
use Rattle.rules.specs.Station.{Job, closed, opened, Slot, Firm, nobody, row_at, firm_of, Station, fresh_slot, hold}
use Rattle.rules.specs.Station as rules
use Rattle.rules.specs.Tick.{bit}
use Rattle.rules.specs.Image.{is_image}
use Rattle.table.specs.Memory.{table_row}
use Rattle.state.specs.declared.Last.{Last}
use Rattle.state.specs.declared.Last.TheVariants as ran
use Rattle.state.specs.declared.Rows.{Rows}
use Rattle.state.specs.declared.State.{State}

-- the elements at i, i + 1, .., k of them
unfoldable pub rows_from : {A : Type 0} → (ℕ → A) → ℕ → ℕ → List A
rows_from g i zero = []
rows_from g i (suc k) = g i ∷ rows_from g (suc i) k

-- the element of an array of numbers
abbrev pub entry : List ℕ → ℕ → ℕ
entry a i = slice_index a i

-- clock minus stamp, modulo 2^32
abbrev pub wrapped : ℕ → ℕ → ℕ
wrapped clock stamp = (clock + (2 ^ 32 - stamp)) % 2 ^ 32

-- the ticks since the last release: held where the rested mark is set, else by the stamp
abbrev pub age_at : Rows → State → ℕ → ℕ
age_at rows s i = cond (bit s.rested i) (hold (table_row rows.table i)) (wrapped s.clock (entry s.stamp i))

-- the job of the row at i
abbrev pub job_at : State → ℕ → Job
job_at s i = cond (bit s.«open» i) (opened (entry s.run i)) closed

-- the row in force at i
abbrev pub slot_at : Rows → State → ℕ → Slot
slot_at rows s i = record { row = table_row rows.table i; U = entry rows.u i; age = age_at rows s i; job = job_at s i }

-- the firm job at j
abbrev pub firm_at : State → ℕ → Firm
firm_at s j = record { ticket = entry s.ticket j; budget = entry s.budget j; run = entry s.used j }

-- all rows in force
abbrev pub slots_of : Rows → State → List Slot
slots_of rows s = rows_from (slot_at rows s) 0 rows.table.n

-- the queue
abbrev pub firms_of : State → List Firm
firms_of s = rows_from (firm_at s) 0 s.count

-- the job that ran last, where the first firm job has this ticket; a row of 16 or more counts as nobody's
abbrev pub last_with : ℕ → Last → rules.Last
last_with first (ran.Hard i) = cond (nat_lt i 16) (row_at i) nobody
last_with first ran.Firm = firm_of first
last_with first ran.Nobody = nobody

-- the job that ran last
abbrev pub last_of : State → rules.Last
last_of s = last_with (entry s.ticket 0) s.last

-- the station
unfoldable pub station_of : Rows → State → Station
station_of rows s = record { clock = s.clock; slots = slots_of rows s; firms = firms_of s; next = s.next; last = last_of s }

-- what the arrays keep to besides: lengths and widths as the types have them, sets that hold rows of the table only, and 0 in what means nothing

-- at most 16 rows, and nothing past them
pub record TableKept (rows : Rows) : Type 0 where
  pub few : rows.table.n ≤ 16
  pub rank_lt : (i : ℕ) → entry rows.table.rank i < 2 ^ 8
  pub past : (i : ℕ) → rows.table.n ≤ i → (entry rows.table.c i ≡ 0) × (entry rows.table.d i ≡ 0) × (entry rows.table.t i ≡ 0) × (entry rows.u i ≡ 0) × (entry rows.table.rank i ≡ 0) × (entry rows.table.m i ≡ 0)

-- where the rested mark is not set, the last release is less than T ticks ago; the stamp of a rested row is 0
pub record TimesKept (rows : Rows) (clock rested : ℕ) (stamp : List ℕ) : Type 0 where
  pub clock_lt : clock < 2 ^ 32
  pub rested_lt : rested < 2 ^ 16
  pub stamps : length stamp ≡ 16
  pub stamp_lt : (i : ℕ) → entry stamp i < 2 ^ 32
  pub rested_past : (i : ℕ) → rows.table.n ≤ i → bit rested i ≡ false
  pub stamp_past : (i : ℕ) → rows.table.n ≤ i → entry stamp i ≡ 0
  pub young : (i : ℕ) → i < rows.table.n → bit rested i ≡ false → wrapped clock (entry stamp i) < entry rows.table.t i
  pub stamp_blank : (i : ℕ) → bit rested i ≡ true → entry stamp i ≡ 0

-- a closed job has run 0
pub record JobsKept (rows : Rows) (o : ℕ) (run : List ℕ) : Type 0 where
  pub open_lt : o < 2 ^ 16
  pub runs : length run ≡ 16
  pub open_past : (i : ℕ) → rows.table.n ≤ i → bit o i ≡ false
  pub run_blank : (i : ℕ) → bit o i ≡ false → entry run i ≡ 0

-- at most 8 firm jobs, and nothing past them
pub record QueueKept (count : ℕ) (budget used ticket : List ℕ) : Type 0 where
  pub few : count ≤ 8
  pub budgets : length budget ≡ 8
  pub useds : length used ≡ 8
  pub tickets : length ticket ≡ 8
  pub past : (j : ℕ) → count ≤ j → (entry ticket j ≡ 0) × (entry budget j ≡ 0) × (entry used j ≡ 0)

-- a hard job that ran last is of a row below 16
abbrev pub LastBelow : Last → Type 0
LastBelow (ran.Hard i) = i < 16
LastBelow ran.Firm = Unit {0}
LastBelow ran.Nobody = Unit {0}

-- all of that
pub record Kept (rows : Rows) (s : State) : Type 0 where
  pub table : TableKept rows
  pub times : TimesKept rows s.clock s.rested s.stamp
  pub jobs : JobsKept rows s.«open» s.run
  pub queue : QueueKept s.count s.budget s.used s.ticket
  pub last_below : LastBelow s.last

-- a state that a block may hold
pub record Stored (rows : Rows) (s : State) : Type 0 where
  pub kept : Kept rows s
  pub image : is_image (station_of rows s) ≡ true

-- the row at a position with its promotion time, rested and without a job
abbrev pub fresh_at : Rows → ℕ → Slot
fresh_at rows i = record { row = table_row rows.table i; U = entry rows.u i; age = hold (table_row rows.table i); job = closed }

-- the table in memory is this plan: its rows and promotion times
pub record Laid (rows : Rows) (ps : List PlannedRow) : Type 0 where
  pub table : TableKept rows
  pub T_lt : (i : ℕ) → entry rows.table.t i < 2 ^ 16
  pub plan_is : rows_from (fresh_at rows) 0 rows.table.n ≡ map fresh_slot ps
