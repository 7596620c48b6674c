-- Document 01, "Station figures": the marked ones as one table, the listing with the empty table's offers as another. Assumes nothing.
-- Rows are counted from 1 here, as in document 01, and 0 stands for no row; a runner and a closing are those of Tick, which counts from 0.
use Rattle.std.specs.Prelude.{suc, zero, ℕ, ◌+◌, ◌-◌, cond, List, [], map, ◌++◌, ◌∷◌, ◌≡◌, eqb, drop, length, replicate, take}
use Rattle.std.proofs.Math.Option.{Option, none, some}
use Rattle.std.proofs.Math.ListN.{get_elem?}
use Rattle.rules.specs.Lists.{All}
use Rattle.rules.specs.Refusals.{Note, Refused, none_ran, not_image, not_ready, note_number, number, unknown_row}
use Rattle.rules.specs.Rows.{Row}
use Rattle.rules.specs.Bound.{Plan, PlannedRow, f, plan, planned, promotion, unplanned}
use Rattle.rules.specs.File.{Reading, Writing, file_bytes, read, read_as, unread, unwritten, write, written}
use Rattle.rules.specs.Station.{Station, fresh_station}
use Rattle.rules.specs.Tick.{Answer, Closing, Notes, Runner, done, firm, firm_job, hard, hard_job, idle, lower, nothing, soft, spent, upper}
use Rattle.rules.specs.Calls.{Call, Reply, after, answered, offer_call, refused, step, tick_call, took}
use Rattle.rules.specs.Events.{Event, bad_event, event, no_more, read_event}
use Rattle.rules.specs.Image.{is_image}

-- WHAT IS ASKED, AND WHAT COMES OF IT

-- a question to the definitions
pub data Asked : Type 0 where
  -- the bound of a row of a table; the first n values of a row's iteration, under the rows above it
  bound_of : (table : List Row) (row : ℕ) → Asked
  values_of : (above : List Row) (r : Row) (n : ℕ) → Asked
  -- reading a table's file; writing a table to an output of so many bytes; reading an event, where these bytes are left
  file_of : (s : List ℕ) → Asked
  output_of : (table : List Row) (bytes : ℕ) → Asked
  event_of : (s : List ℕ) → Asked
  -- a call on a station; a block with this state
  call_on : (st : Station) (c : Call) → Asked
  block_of : (st : Station) → Asked

-- what they say
pub data Found : Type 0 where
  R_and_U : (R U : ℕ) → Found
  values : List ℕ → Found
  -- a tick's answer, with its notes: number and bits; an accepted offer's ticket
  ran : (t : ℕ) → Runner → Closing → List (ℕ × Option ℕ) → Found
  ticket : ℕ → Found
  -- a refusal: its number and the row that it names; its number and of the shown part where it starts, its size and its bytes
  refuses : (number row : ℕ) → Found
  shows : (number from size : ℕ) (bytes : List ℕ) → Found
  passes : Found

-- a refusal that names its row: 6 to 10 and 22
abbrev pub row_refusal : Refused → Found
row_refusal x = refuses (number x.why) (suc x.row)

-- the number of a note and its bits, if there are any
abbrev pub bits_noted : Note → ℕ → List (ℕ × Option ℕ)
bits_noted n bits = cond (eqb bits 0) [] ((note_number n, some bits) ∷ [])

-- what is noted, in number order: the number, and for 12 and 14 the offending bits
abbrev pub noted : Notes → List (ℕ × Option ℕ)
noted n =
    bits_noted unknown_row n.unknown
    ++ (cond n.none_ran ((note_number none_ran, none) ∷ []) []
    ++ bits_noted not_ready n.not_ready)

-- a tick's line, and the lines of its notes
abbrev pub tick_found : Answer → Found
tick_found a = ran a.at a.runner a.closing (noted a.notes)

-- R and U of a planned row
abbrev pub row_found : Option PlannedRow → Found
row_found none = passes
row_found (some p) = R_and_U p.R (promotion p.row p.R)

-- of the n-th row of a plan
abbrev pub plan_found : ℕ → Plan → Found
plan_found n (planned ps) = row_found (get_elem? ps (n - 1))
plan_found n (unplanned x) = row_refusal x

-- w, f(w), f(f(w)) and so on: n values
abbrev pub values_from : List Row → Row → ℕ → ℕ → List ℕ
values_from above r w zero = []
values_from above r w (suc n) = w ∷ values_from above r (f above r w) n

-- of reading a file
abbrev pub file_found : List ℕ → Reading → Found
file_found s (read_as ps) = passes
file_found s (unread why from size) = shows (number why) from size (take size (drop from s))

-- of writing to an output
abbrev pub output_found : Writing → Found
output_found (written n after) = passes
output_found (unwritten why) = refuses (number why) 0

-- of reading an event
abbrev pub event_found : List ℕ → Event → Found
event_found s (event c size) = passes
event_found s no_more = passes
event_found s (bad_event why size) = shows (number why) 0 size (take size s)

-- of a call
abbrev pub reply_found : Reply → Found
reply_found (answered a) = tick_found a
reply_found (took t) = ticket t
reply_found (refused why) = refuses (number why) 0

-- the answer to each question
abbrev pub found : Asked → Found
found (bound_of table n) = plan_found n (plan table)
found (values_of above r n) = values (values_from above r r.C n)
found (file_of s) = file_found s (read s)
found (output_of table bytes) = output_found (write table (replicate bytes 0))
found (event_of s) = event_found s (read_event s)
found (call_on st c) = reply_found (step st c).reply
found (block_of st) = cond (is_image st) passes (refuses (number not_image) 0)

-- a table, and that each of its lines holds

-- questions, each with its answer
abbrev pub Figures : Type 0
Figures = List (Asked × Found)

-- each answer is the one found
abbrev pub AllHold : Figures → Type 0
AllHold table = All (λ line. found line.0 ≡ line.1) table

-- THE MARKED FIGURES

-- a row of these numbers, with no margin
abbrev pub row : ℕ → ℕ → ℕ → ℕ → Row
row C D T rank = record { C = C; D = D; T = T; rank = rank; M = 0 }

-- the row with a margin
abbrev pub with_margin : ℕ → Row → Row
with_margin M r = record { C = r.C; D = r.D; T = r.T; rank = r.rank; M = M }

-- table A
abbrev pub table_a : List Row
table_a = row 2 6 8 0 ∷ row 5 12 12 1 ∷ []

-- the fresh station of a plan
abbrev pub fresh_of : Plan → Station
fresh_of (planned ps) = fresh_station ps
fresh_of (unplanned x) = fresh_station []

-- the fresh station of A
abbrev pub station_a : Station
station_a = fresh_of (plan table_a)

-- clock 2 of the listing: after its first two ticks
abbrev pub at_clock2 : Station
at_clock2 = after station_a (tick_call 3 0 ∷ tick_call 0 2 ∷ [])

-- document 01's, in its order
abbrev pub figures : Figures
figures =
    (bound_of table_a 1, R_and_U 2 4)
    ∷ (bound_of table_a 2, R_and_U 7 5)
    ∷ (bound_of (row 3 6 6 0 ∷ row 2 8 8 1 ∷ []) 1, R_and_U 3 3)
    ∷ (bound_of (row 3 6 6 0 ∷ row 2 8 8 1 ∷ []) 2, R_and_U 5 3)
    ∷ (values_of (row 2 8 8 1 ∷ row 3 6 6 0 ∷ []) (row 3 12 12 2) 4, values (3 ∷ 8 ∷ 11 ∷ 13 ∷ []))
    ∷ (bound_of (row 3 6 6 0 ∷ row 2 8 8 1 ∷ row 3 12 12 2 ∷ []) 3, refuses 10 3)
    ∷ (bound_of (row 2 4 4 0 ∷ row 2 4 4 1 ∷ []) 2, R_and_U 4 0)
    ∷ (bound_of (row 2 4 4 0 ∷ row 3 4 4 1 ∷ []) 2, refuses 10 2)
    ∷ (bound_of (row 1 1 1 0 ∷ []) 1, R_and_U 1 0)
    ∷ (bound_of (row 65535 65535 65535 0 ∷ []) 1, R_and_U 65535 0)
    ∷ (call_on at_clock2 (offer_call 2 4), ticket 0)
    ∷ (call_on at_clock2 (offer_call 3 4), refuses 18 0)
    ∷ (call_on at_clock2 (offer_call 2 3), ticket 0)
    ∷ (call_on at_clock2 (offer_call 3 5), refuses 18 0)
    ∷ []

-- not document 01's: A with margins, up to D − R and one above it
abbrev pub margin_figures : Figures
margin_figures =
    (bound_of (with_margin 1 (row 2 6 8 0) ∷ with_margin 5 (row 5 12 12 1) ∷ []) 1, R_and_U 2 3)
    ∷ (bound_of (with_margin 1 (row 2 6 8 0) ∷ with_margin 5 (row 5 12 12 1) ∷ []) 2, R_and_U 7 0)
    ∷ (bound_of (with_margin 4 (row 2 6 8 0) ∷ with_margin 6 (row 5 12 12 1) ∷ []) 2, refuses 22 2)
    ∷ (bound_of (with_margin 5 (row 2 6 8 0) ∷ with_margin 6 (row 5 12 12 1) ∷ []) 2, refuses 22 1)
    ∷ []

-- THE LISTING

-- what `plan` prints of a row: its number, C, D, T, R, U, rounds; n is the number of the next row
abbrev pub plan_lines : ℕ → List PlannedRow → List (List ℕ)
plan_lines n [] = []
plan_lines n (p ∷ ps) = (n ∷ p.row.C ∷ p.row.D ∷ p.row.T ∷ p.R ∷ promotion p.row p.R ∷ p.rounds ∷ []) ∷ plan_lines (suc n) ps

-- 15 to 18 show the whole event field, which stands at a place
abbrev pub reply_line : ℕ → List ℕ → Reply → Found
reply_line at field (answered a) = tick_found a
reply_line at field (took t) = ticket t
reply_line at field (refused why) = shows (number why) at (length field) field

-- the line of the event at the place at, where the bytes s are left; next: the lines of what follows
abbrev pub event_lines : ℕ → List ℕ → Station → (ℕ → List ℕ → Station → List Found) → Event → List Found
event_lines at s st next (event c size) = reply_line at (take size s) (step st c).reply ∷ next (at + size) (drop size s) (step st c).station
event_lines at s st next no_more = []
event_lines at s st next (bad_event why size) = shows (number why) at size (take size s) ∷ []

-- what `run` prints: the lines of at most n events
abbrev pub run_lines : ℕ → ℕ → List ℕ → Station → List Found
run_lines zero at s st = []
run_lines (suc n) at s st = event_lines at s st (run_lines n) (read_event s)

-- event fields, each with its line
abbrev pub Listing : Type 0
Listing = List (List ℕ × Found)

-- the fields one after the other
abbrev pub events_of : Listing → List ℕ
events_of [] = []
events_of (e ∷ es) = e.0 ++ events_of es

-- the table is read, and `plan` or `run` prints the lines

-- `plan` prints these lines
abbrev pub Plans : List (List ℕ) → Reading → Type 0
Plans lines (read_as ps) = plan_lines 1 ps ≡ lines
Plans lines (unread why from size) = ⊥

-- `run` prints the lines of the listing
abbrev pub Runs : Listing → Reading → Type 0
Runs es (read_as ps) = run_lines (length (events_of es)) 0 (events_of es) (fresh_station ps) ≡ map (λ e. e.1) es
Runs es (unread why from size) = ⊥

-- the file of table A
abbrev pub file_a : List ℕ
file_a =
    (0x01 ∷ 0x00 ∷ 0x07 ∷ 0x00 ∷ 0x02 ∷ 0x00 ∷ 0x06 ∷ 0x00 ∷ 0x08 ∷ 0x00 ∷ [])
    ++ (0x01 ∷ 0x00 ∷ 0x07 ∷ 0x00 ∷ 0x05 ∷ 0x00 ∷ 0x0c ∷ 0x00 ∷ 0x0c ∷ 0x01 ∷ [])
    ++ (0x0f ∷ 0x00 ∷ 0x00 ∷ [])

-- hard 0 lower is L1, hard 1 upper is U2, hard_job 0 is H1; as document 02 has it (§3): the fifth event steps tick 3, and note 14 0001 is printed after its line
abbrev pub listing : Listing
listing =
    (0x21 ∷ 0x00 ∷ 0x03 ∷ 0x00 ∷ 0x03 ∷ 0x00 ∷ [], ran 0 (hard 0 lower) nothing [])
    ∷ (0x21 ∷ 0x00 ∷ 0x03 ∷ 0x00 ∷ 0x00 ∷ 0x02 ∷ [], ran 1 soft nothing [])
    ∷ (0x22 ∷ 0x00 ∷ 0x04 ∷ 0x00 ∷ 0x02 ∷ 0x00 ∷ 0x04 ∷ [], ticket 0)
    ∷ (0x21 ∷ 0x00 ∷ 0x03 ∷ 0x00 ∷ 0x00 ∷ 0x00 ∷ [], ran 2 (firm 0) nothing [])
    ∷ (0x21 ∷ 0x00 ∷ 0x03 ∷ 0x00 ∷ 0x01 ∷ 0x00 ∷ [], ran 3 (firm 0) nothing ((14, some 0x0001) ∷ []))
    ∷ (0x21 ∷ 0x00 ∷ 0x03 ∷ 0x00 ∷ 0x00 ∷ 0x00 ∷ [], ran 4 (hard 0 upper) (firm_job 0 spent) [])
    ∷ (0x21 ∷ 0x00 ∷ 0x03 ∷ 0x00 ∷ 0x00 ∷ 0x00 ∷ [], ran 5 (hard 1 upper) (hard_job 0 spent) [])
    ∷ (0x21 ∷ 0x00 ∷ 0x03 ∷ 0x00 ∷ 0x00 ∷ 0x01 ∷ [], ran 6 idle (hard_job 1 done) [])
    ∷ []

-- B 5, d 5; then B 1, d 5; then B 1, d 6
abbrev pub empty_listing : Listing
empty_listing =
    (0x22 ∷ 0x00 ∷ 0x04 ∷ 0x00 ∷ 0x05 ∷ 0x00 ∷ 0x05 ∷ [], ticket 0)
    ∷ (0x22 ∷ 0x00 ∷ 0x04 ∷ 0x00 ∷ 0x01 ∷ 0x00 ∷ 0x05 ∷ [], shows 18 7 7 (0x22 ∷ 0x00 ∷ 0x04 ∷ 0x00 ∷ 0x01 ∷ 0x00 ∷ 0x05 ∷ []))
    ∷ (0x22 ∷ 0x00 ∷ 0x04 ∷ 0x00 ∷ 0x01 ∷ 0x00 ∷ 0x06 ∷ [], ticket 1)
    ∷ []

-- not document 01's: ranks against the order of the rows
abbrev pub rank_listing : Listing
rank_listing = (0x21 ∷ 0x00 ∷ 0x03 ∷ 0x00 ∷ 0x03 ∷ 0x00 ∷ [], ran 0 (hard 1 lower) nothing []) ∷ []

-- not document 01's: the file of A with the margins 1 and 5
abbrev pub file_m : List ℕ
file_m =
    (0x02 ∷ 0x00 ∷ 0x09 ∷ 0x00 ∷ 0x02 ∷ 0x00 ∷ 0x06 ∷ 0x00 ∷ 0x08 ∷ 0x00 ∷ 0x00 ∷ 0x01 ∷ [])
    ++ (0x02 ∷ 0x00 ∷ 0x09 ∷ 0x00 ∷ 0x05 ∷ 0x00 ∷ 0x0c ∷ 0x00 ∷ 0x0c ∷ 0x01 ∷ 0x00 ∷ 0x05 ∷ [])
    ++ (0x0f ∷ 0x00 ∷ 0x00 ∷ [])

-- row 2 is promoted at once, row 1 at 3; the one has run its C before tick 7 = 12 − 5, the other before 5 = 6 − 1
abbrev pub margin_listing : Listing
margin_listing =
    (0x21 ∷ 0x00 ∷ 0x03 ∷ 0x00 ∷ 0x03 ∷ 0x02 ∷ [], ran 0 (hard 1 upper) nothing [])
    ∷ (0x21 ∷ 0x00 ∷ 0x03 ∷ 0x00 ∷ 0x00 ∷ 0x02 ∷ [], ran 1 (hard 1 upper) nothing [])
    ∷ (0x21 ∷ 0x00 ∷ 0x03 ∷ 0x00 ∷ 0x00 ∷ 0x02 ∷ [], ran 2 (hard 1 upper) nothing [])
    ∷ (0x21 ∷ 0x00 ∷ 0x03 ∷ 0x00 ∷ 0x00 ∷ 0x02 ∷ [], ran 3 (hard 0 upper) nothing [])
    ∷ (0x21 ∷ 0x00 ∷ 0x03 ∷ 0x00 ∷ 0x00 ∷ 0x02 ∷ [], ran 4 (hard 0 upper) nothing [])
    ∷ (0x21 ∷ 0x00 ∷ 0x03 ∷ 0x00 ∷ 0x00 ∷ 0x02 ∷ [], ran 5 (hard 1 upper) (hard_job 0 spent) [])
    ∷ (0x21 ∷ 0x00 ∷ 0x03 ∷ 0x00 ∷ 0x00 ∷ 0x02 ∷ [], ran 6 (hard 1 upper) nothing [])
    ∷ (0x21 ∷ 0x00 ∷ 0x03 ∷ 0x00 ∷ 0x00 ∷ 0x02 ∷ [], ran 7 soft (hard_job 1 spent) [])
    ∷ []

-- what is printed of A, of the empty table, of ranks against the order of rows, and of margins
pub record Listings : Type 0 where
  pub plan_a : Plans ((1 ∷ 2 ∷ 6 ∷ 8 ∷ 2 ∷ 4 ∷ 1 ∷ []) ∷ (2 ∷ 5 ∷ 12 ∷ 12 ∷ 7 ∷ 5 ∷ 2 ∷ []) ∷ []) (read file_a)
  pub run_a : Runs listing (read file_a)
  pub run_empty : Runs empty_listing (read (0x0f ∷ 0x00 ∷ 0x00 ∷ []))
  pub run_ranks : Runs rank_listing (read (file_bytes (row 1 4 4 1 ∷ row 1 4 4 0 ∷ [])))
  pub plan_m : Plans ((1 ∷ 2 ∷ 6 ∷ 8 ∷ 2 ∷ 3 ∷ 1 ∷ []) ∷ (2 ∷ 5 ∷ 12 ∷ 12 ∷ 7 ∷ 0 ∷ 2 ∷ []) ∷ []) (read file_m)
  pub run_m : Runs margin_listing (read file_m)
