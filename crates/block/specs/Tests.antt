-- What decoding tests: one number of faults for each array, 0 where there is none. Assumes nothing.
use Rattle.std.specs.Prelude.{ℕ, zero, suc, ◌+◌, ◌-◌, ◌*◌, ◌/◌, ◌%◌, ◌^◌, Bool, false, cond, ◌&&◌, List, length, ◌==◌, Option, Some, None, bit_or, bit_xor, nat_le, nat_lt}
use Rattle.rules.specs.Tick.{bit}
use Rattle.state.specs.Meaning.{entry, wrapped}
use Rattle.state.specs.Sets.{known, others}
use Rattle.state.specs.declared.Rows.{Rows}
use Rattle.state.specs.declared.State.{State}
use Rattle.block.specs.declared.Decoded.{Decoded}
use Rattle.block.specs.Places.{C_at, D_at, M_at, T_at, U_at, block_bytes, budget_at, clock_at, count_at, free_at, last_at, n_at, next_at, open_at, rank_at, reserved_at, reserved_bytes, rested_at, run_at, stamp_at, ticket_at, used_at}
use Rattle.block.specs.Words.{le}
use Rattle.block.specs.Layout.{rows_at, state_at}

-- the last runner as a set: of rows, and of firm jobs, of which only the first can be it
abbrev pub row_mark : ℕ → ℕ
row_mark last = 2 ^ (last % 32) % 65536

-- and of firm jobs
abbrev pub firm_mark : ℕ → ℕ
firm_mark last = 2 ^ (last % 32) / 65536 % 2

-- the faults of the first n, together
unfoldable pub or_of : (ℕ → ℕ) → ℕ → ℕ
or_of f zero = 0
or_of f (suc n) = bit_or (or_of f n) (f n)

-- the ticks that a job may have run: its whole budget if it is the last runner, else less
abbrev pub most_run : Bool → ℕ → ℕ
most_run ran budget = budget - cond ran 0 1

-- the ticks that a row's margin leaves of D
abbrev pub due : ℕ → ℕ → ℕ
due d m = d - m

-- the rows: C ≤ D − M, D ≤ T, U ≤ D − M − C; C ≥ 1 where there is a row, so that M is below D, and T = M = 0 where there is none; ticks run: as many as a job may, 0 if closed

-- of one row
abbrev pub hard_fault : Bool → Bool → Bool → ℕ → ℕ → ℕ → ℕ → ℕ → ℕ → ℕ
hard_fault live o ran c d t u m run = bit_or (bit_or (bit_or (bit_or (c - due d m) (d - t)) (u - (due d m - c))) (cond live (1 - c) (bit_or t m))) (run - cond o (most_run ran c) 0)

-- of the row at i
abbrev pub hard_fault_at : List ℕ → ℕ → ℕ → ℕ → ℕ → ℕ
hard_fault_at b live o ran i =
    hard_fault (bit live i) (bit o i) (bit ran i) (le 2 b (C_at + 2 * i)) (le 2 b (D_at + 2 * i)) (le 2 b (T_at + 2 * i)) (le 2 b (U_at + 2 * i)) (le 2 b (M_at + 2 * i)) (le 2 b (run_at + 2 * i))

-- no row has a fault
abbrev pub rows_good : List ℕ → ℕ → ℕ → ℕ → Bool
rows_good b live o ran = or_of (hard_fault_at b live o ran) 16 == 0

-- the ranks: below 32, those of the rows together the positions below n, 0 past them

-- the rank at i of a list of ranks, as a set
abbrev pub rank_mark : List ℕ → ℕ → ℕ
rank_mark ranks i = 2 ^ (entry ranks i % 32)

-- the rank of the row at i, as a set
abbrev pub rank_bit : List ℕ → ℕ → ℕ
rank_bit b i = rank_mark b (rank_at + i)

-- the ranks of the n rows are 0 to n − 1, each once
abbrev pub ranks_once : List ℕ → ℕ → Bool
ranks_once b n = or_of (rank_bit b) n == known n

-- no rank is 32 or above
abbrev pub ranks_low : List ℕ → Bool
ranks_low b = nat_lt (or_of (λ i. entry b (rank_at + i)) 16) 32

-- a rank past the rows
abbrev pub past_fault : List ℕ → ℕ → ℕ → ℕ
past_fault b n i = cond (nat_lt i n) 0 (entry b (rank_at + i))

-- none is there
abbrev pub ranks_blank : List ℕ → ℕ → Bool
ranks_blank b n = or_of (past_fault b n) 16 == 0

-- the stamps: 0 where a row is rested or not there, else less than T ticks ago

-- of one stamp; quiet: the row is rested or not there
abbrev pub stamp_fault : Bool → ℕ → ℕ → ℕ → ℕ
stamp_fault quiet t clock stamp = cond quiet stamp (cond (nat_lt (wrapped clock stamp) t) 0 1)

-- of the stamp at i
abbrev pub stamp_fault_at : List ℕ → ℕ → ℕ → ℕ → ℕ
stamp_fault_at b quiet clock i = stamp_fault (bit quiet i) (le 2 b (T_at + 2 * i)) clock (le 4 b (stamp_at + 4 * i))

-- no stamp has a fault
abbrev pub stamps_good : List ℕ → ℕ → ℕ → Bool
stamps_good b quiet clock = or_of (stamp_fault_at b quiet clock) 16 == 0

-- the firm jobs: budget ≥ 1 where there is a job and 0 where there is none; ticks run: as many as a job may

-- of one firm job
abbrev pub firm_fault : Bool → Bool → ℕ → ℕ → ℕ
firm_fault queued ran budget used = bit_or (cond queued (1 - budget) budget) (used - most_run ran budget)

-- of the firm job at i
abbrev pub firm_fault_at : List ℕ → ℕ → ℕ → ℕ → ℕ
firm_fault_at b queued ran i = firm_fault (bit queued i) (bit ran i) (le 2 b (budget_at + 2 * i)) (le 2 b (used_at + 2 * i))

-- no firm job has a fault
abbrev pub firms_good : List ℕ → ℕ → ℕ → Bool
firms_good b queued ran = or_of (firm_fault_at b queued ran) 8 == 0

-- the tickets: one after the other from the first, 0 where there is no job

-- of the ticket at i
abbrev pub ticket_fault_at : List ℕ → ℕ → ℕ → ℕ → ℕ
ticket_fault_at b queued first i = bit_xor (le 4 b (ticket_at + 4 * i)) (cond (bit queued i) ((first + i) % 2 ^ 32) 0)

-- no ticket has a fault
abbrev pub tickets_good : List ℕ → ℕ → ℕ → Bool
tickets_good b queued first = or_of (ticket_fault_at b queued first) 8 == 0

-- the last runner, if a job, is open and has run; a firm one is the first queued
abbrev pub last_good : List ℕ → ℕ → ℕ → ℕ → Bool
last_good b last o count =
    cond (nat_lt last 16) (bit o last && nat_lt 0 (le 2 b (run_at + 2 * last)))
    (cond (last == 16) (nat_lt 0 count && nat_lt 0 (le 2 b used_at)) (last == 17))

-- the bytes kept free are 0
abbrev pub free_good : List ℕ → Bool
free_good b = bit_or (or_of (λ i. entry b (reserved_at + i)) reserved_bytes) (entry b free_at) == 0

-- all of them, for a list as long as a block

-- the ranks
abbrev pub table_good : List ℕ → ℕ → Bool
table_good b n = ranks_once b n && ranks_low b && ranks_blank b n

-- the rows, and that only rows of the table have a job
abbrev pub jobs_good : List ℕ → ℕ → ℕ → Bool
jobs_good b live last = rows_good b live (le 2 b open_at) (row_mark last) && nat_le (le 2 b open_at) live

-- the stamps, and that only rows of the table are rested
abbrev pub times_good : List ℕ → ℕ → Bool
times_good b live = stamps_good b (bit_or (le 2 b rested_at) (others live)) (le 4 b clock_at) && nat_le (le 2 b rested_at) live

-- the firm jobs and their tickets
abbrev pub queue_good : List ℕ → ℕ → ℕ → Bool
queue_good b count last = firms_good b (known count) (firm_mark last) && tickets_good b (known count) (wrapped (le 4 b next_at) count)

-- the last runner, and the bytes kept free
abbrev pub rest_good : List ℕ → ℕ → ℕ → Bool
rest_good b count last = last_good b last (le 2 b open_at) count && free_good b

-- every field, with n rows and count firm jobs
abbrev pub fields_good : List ℕ → ℕ → ℕ → ℕ → Bool
fields_good b n count last = table_good b n && jobs_good b (known n) last && times_good b (known n) && queue_good b count last && rest_good b count last

-- at most 16 rows and 8 firm jobs, and every field
abbrev pub image_good : List ℕ → Bool
image_good b = cond (nat_lt 16 (entry b n_at)) false (cond (nat_lt 8 (entry b count_at)) false (fields_good b (entry b n_at) (entry b count_at) (entry b last_at)))

-- decoding

-- an image is accepted as these rows and this state
abbrev pub decoded_as : Rows → State → Option Decoded
decoded_as rows s = Some (record { rows = rows; state = s })

-- an image is accepted; any other list of bytes is refused
unfoldable pub decoded_of : List ℕ → Option Decoded
decoded_of b = cond (length b == block_bytes && image_good b) (decoded_as (rows_at b) (state_at b)) None
