-- An example of every refusal and note, and of the order in which document 01 asks: a companion to the figures. Assumes nothing.
-- Rows are counted from 1 here, as in document 01, and 0 stands for no row.
use Rattle.std.specs.Prelude.{suc, zero, ℕ, Bool, false, not, List, [], map, ◌++◌, ◌∷◌, ◌≡◌, eqb, length, replicate}
use Rattle.std.proofs.Math.Option.{none, some}
use Rattle.rules.specs.Lists.{any, first_of}
use Rattle.rules.specs.File.{margin_bytes, row_bytes}
use Rattle.rules.specs.Station.{Job, Last, Station, closed, firm_of, fresh_slot, fresh_station, nobody, opened, row_at, with_job}
use Rattle.rules.specs.Tick.{done, hard, hard_job, idle, lower, nothing, soft, spent, upper}
use Rattle.rules.specs.Calls.{after, offer_call, tick_call}
use Rattle.rules.specs.Figures.{AllHold, Asked, Figures, Found, R_and_U, at_clock2, block_of, call_on, event_of, file_of, output_of, passes, ran, refuses, row, shows, station_a, table_a, ticket, values, with_margin}

-- a table file refused with n, which shows its middle part
abbrev pub file_shows : ℕ → List ℕ → List ℕ → List ℕ → Asked × Found
file_shows n before part after = (file_of (before ++ (part ++ after)), shows n (length before) (length part) part)

-- an event refused with n, which shows the first part of the bytes left
abbrev pub event_shows : ℕ → List ℕ → List ℕ → Asked × Found
event_shows n part after = (event_of (part ++ after), shows n 0 (length part) part)

-- the ten bytes of a row
abbrev pub row_field : ℕ → ℕ → ℕ → ℕ → List ℕ
row_field C D T rank = row_bytes (row C D T rank)

-- the twelve bytes of a row with its margin, which may be 0
abbrev pub margin_field : ℕ → ℕ → ℕ → ℕ → ℕ → List ℕ
margin_field C D T rank M = margin_bytes (with_margin M (row C D T rank))

-- the end field
abbrev pub end_field : List ℕ
end_field = 0x0f ∷ 0x00 ∷ 0x00 ∷ []

-- so many rows with C = 0
abbrev pub zero_rows : ℕ → List ℕ
zero_rows zero = []
zero_rows (suc n) = row_field 0 0 0 0 ++ zero_rows n

-- on the empty table: 8 firm jobs of one tick each
abbrev pub full_queue : Station
full_queue = after (fresh_station []) (replicate 8 (offer_call 1 8))

-- the first row of A alone, with this margin, planned with the bound R
abbrev pub margin_row : ℕ → ℕ → ℕ → Job → Last → Station
margin_row M R age job last =
    let slot = with_job (fresh_slot (record { row = with_margin M (row 2 6 8 0); R = R; rounds = 1 })) age job in
    record { clock = 100; slots = slot ∷ []; firms = []; next = 0; last = last }

-- with no margin
abbrev pub one_row : ℕ → ℕ → Job → Last → Station
one_row R age job last = margin_row 0 R age job last

-- an empty table, with firm jobs of a ticket, a budget and ticks run
abbrev pub queue_of : List (ℕ × ℕ × ℕ) → ℕ → Last → Station
queue_of jobs next last =
    record { clock = 100; slots = []; firms = map (λ j. record { ticket = j.0; budget = j.1; run = j.2 }) jobs; next = next; last = last }

-- by number, each asked and found
abbrev pub refusals : Figures
refusals =
    -- 1: no end field; two bytes left; a value cut. Asked before the tag, before the flags, and before 6 of any row
    file_shows 1 [] [] []
    ∷ file_shows 1 (row_field 2 6 8 0) (0x0f ∷ 0x00 ∷ []) []
    ∷ file_shows 1 (row_field 2 6 8 0) (0x01 ∷ 0x00 ∷ 0x07 ∷ 0x00 ∷ 0x05 ∷ []) []
    ∷ file_shows 1 [] (0x7f ∷ 0x00 ∷ []) []
    ∷ file_shows 1 (row_field 2 6 8 0) (0x02 ∷ 0x00 ∷ 0x09 ∷ 0x00 ∷ 0x05 ∷ 0x00 ∷ 0x0c ∷ 0x00 ∷ 0x0c ∷ 0x01 ∷ 0x00 ∷ []) []
    ∷ file_shows 1 (row_field 0 6 8 0) [] []
    ∷ event_shows 1 (0x22 ∷ 0x00 ∷ []) []
    ∷ event_shows 1 (0x21 ∷ 0x00 ∷ 0x03 ∷ 0x00 ∷ 0x04 ∷ []) []
    -- 2, before the length and before a cut value
    ∷ file_shows 2 (row_field 2 6 8 0) (0x04 ∷ 0x00 ∷ 0x07 ∷ []) end_field
    ∷ file_shows 2 [] (0x21 ∷ 0x00 ∷ 0x09 ∷ []) []
    ∷ event_shows 2 (0x01 ∷ 0x00 ∷ 0x09 ∷ []) []
    -- 3, before a 17th row, before a cut value, and before 4
    ∷ file_shows 3 (zero_rows 16) (0x01 ∷ 0x00 ∷ 0x08 ∷ []) []
    ∷ file_shows 3 (margin_field 2 6 8 0 1) (0x02 ∷ 0x00 ∷ 0x07 ∷ []) end_field
    ∷ file_shows 3 (margin_field 2 6 8 0 1) (0x01 ∷ 0x00 ∷ 0x09 ∷ []) end_field
    ∷ file_shows 3 [] (0x0f ∷ 0x00 ∷ 0x01 ∷ []) (0x00 ∷ 0x00 ∷ [])
    ∷ event_shows 3 (0x21 ∷ 0x00 ∷ 0x04 ∷ []) (0x00 ∷ 0x00 ∷ 0x00 ∷ 0x00 ∷ [])
    ∷ event_shows 3 (0x22 ∷ 0x00 ∷ 0x03 ∷ []) []
    -- 4, before 6 of any row
    ∷ file_shows 4 end_field (0x00 ∷ []) []
    ∷ file_shows 4 (row_field 0 6 8 0 ++ end_field) (row_field 2 6 8 0 ++ end_field) []
    -- 5, before a cut value and before 6 of any row; writing, before 6 and 19
    ∷ file_shows 5 (zero_rows 16) (0x01 ∷ 0x00 ∷ 0x07 ∷ []) (0x00 ∷ [])
    ∷ file_shows 5 (zero_rows 16) (0x01 ∷ 0x00 ∷ 0x07 ∷ []) (0x00 ∷ 0x02 ∷ 0x00 ∷ 0x06 ∷ 0x00 ∷ 0x08 ∷ 0x00 ∷ end_field)
    ∷ file_shows 5 (zero_rows 16) (0x02 ∷ 0x00 ∷ 0x09 ∷ []) []
    ∷ (output_of (replicate 17 (row 0 0 0 0)) 0, refuses 5 0)
    -- 6, before 8 and 9 in its row, and before 10 of a row above; writing, before 19
    ∷ file_shows 6 [] (row_field 0 6 5 9) end_field
    ∷ file_shows 6 (row_field 2 4 4 0 ++ row_field 3 4 4 1) (row_field 0 4 4 2) end_field
    ∷ file_shows 6 (margin_field 2 6 8 0 1) (margin_field 0 12 12 1 1) end_field
    ∷ (output_of (row 0 6 8 0 ∷ []) 0, refuses 6 0)
    -- 7, before 8 and 9; 8, before 9
    ∷ file_shows 7 [] (row_field 6 5 4 9) end_field
    ∷ file_shows 8 [] (row_field 2 6 5 9) end_field
    -- 9: rank 2 of 2 rows; a rank used above. Before 6 of a row below
    ∷ file_shows 9 (row_field 2 6 8 0) (row_field 5 12 12 2) end_field
    ∷ file_shows 9 (row_field 2 6 8 0) (row_field 5 12 12 0) end_field
    ∷ file_shows 9 [] (row_field 2 6 8 2) (row_field 0 12 12 1 ++ end_field)
    -- 10, of the first such row; writing, before 19
    ∷ file_shows 10 (row_field 2 4 4 0) (row_field 3 4 4 1) end_field
    ∷ file_shows 10 (row_field 2 4 4 0) (row_field 3 4 4 1) (row_field 4 4 4 2 ++ end_field)
    ∷ file_shows 10 (margin_field 2 4 4 0 1 ++ row_field 1 4 4 1) (margin_field 2 4 4 2 9) (row_field 4 4 4 3 ++ end_field)
    ∷ (output_of (row 2 4 4 0 ∷ row 3 4 4 1 ∷ []) 0, refuses 10 0)
    -- 11: U above D − C; an age above T; run more than C; fully run, and not the last runner; the last runner not run; not open; and nothing wrong
    ∷ (block_of (one_row 1 3 (opened 1) (row_at 0)), refuses 11 0)
    ∷ (block_of (one_row 2 9 (opened 1) (row_at 0)), refuses 11 0)
    ∷ (block_of (one_row 2 3 (opened 3) (row_at 0)), refuses 11 0)
    ∷ (block_of (one_row 2 3 (opened 2) nobody), refuses 11 0)
    ∷ (block_of (one_row 2 3 (opened 0) (row_at 0)), refuses 11 0)
    ∷ (block_of (one_row 2 3 closed (row_at 0)), refuses 11 0)
    ∷ (block_of (one_row 2 3 (opened 2) (row_at 0)), passes)
    -- 11: C + M above D, and not above it; U above D − C − M, and not above it
    ∷ (block_of (margin_row 5 1 3 (opened 1) (row_at 0)), refuses 11 0)
    ∷ (block_of (margin_row 4 2 3 (opened 1) (row_at 0)), passes)
    ∷ (block_of (margin_row 1 1 3 (opened 1) (row_at 0)), refuses 11 0)
    ∷ (block_of (margin_row 1 2 3 (opened 1) (row_at 0)), passes)
    -- 11: budget 0; a gap in the tickets; not up to the next; 9 jobs; fully run, and not the last runner; the last runner not the first; and nothing wrong
    ∷ (block_of (queue_of ((0, 0, 0) ∷ []) 1 nobody), refuses 11 0)
    ∷ (block_of (queue_of ((0, 3, 1) ∷ (2, 1, 0) ∷ []) 3 (firm_of 0)), refuses 11 0)
    ∷ (block_of (queue_of ((0, 3, 1) ∷ (1, 1, 0) ∷ []) 3 (firm_of 0)), refuses 11 0)
    ∷ (block_of (queue_of (map (λ t. (t, 1, 0)) (0 ∷ 1 ∷ 2 ∷ 3 ∷ 4 ∷ 5 ∷ 6 ∷ 7 ∷ 8 ∷ [])) 9 nobody), refuses 11 0)
    ∷ (block_of (queue_of ((0, 3, 3) ∷ (1, 1, 0) ∷ []) 2 nobody), refuses 11 0)
    ∷ (block_of (queue_of ((0, 3, 1) ∷ (1, 1, 1) ∷ []) 2 (firm_of 1)), refuses 11 0)
    ∷ (block_of (queue_of ((0, 3, 3) ∷ (1, 1, 0) ∷ []) 2 (firm_of 0)), passes)
    -- 12, noted: every bit above n; the rows that are known are released
    ∷ (call_on station_a (tick_call 0x0004 0), ran 0 idle nothing ((12, some 0x0004) ∷ []))
    ∷ (call_on station_a (tick_call 0x8006 0), ran 0 (hard 1 lower) nothing ((12, some 0x8004) ∷ []))
    ∷ (call_on (fresh_station []) (tick_call 0xffff 0), ran 0 idle nothing ((12, some 0xffff) ∷ []))
    -- 13, noted: there was no tick; soft work ran
    ∷ (call_on station_a (tick_call 0x0001 1), ran 0 (hard 0 lower) nothing ((13, none) ∷ []))
    ∷ (call_on at_clock2 (tick_call 0 1), ran 2 (hard 0 lower) nothing ((13, none) ∷ []))
    -- 14, noted: rows not rested; a rested row with a job still open. Asked after the closing
    ∷ (call_on at_clock2 (tick_call 0x0002 0), ran 2 (hard 0 lower) nothing ((14, some 0x0002) ∷ []))
    ∷ (call_on (one_row 2 8 (opened 1) nobody) (tick_call 0x0001 0), ran 100 (hard 0 upper) nothing ((14, some 0x0001) ∷ []))
    ∷ (call_on (one_row 2 8 (opened 2) (row_at 0)) (tick_call 0x0001 0), ran 100 (hard 0 lower) (hard_job 0 spent) [])
    ∷ (call_on (one_row 2 8 (opened 1) (row_at 0)) (tick_call 0x0001 1), ran 100 (hard 0 lower) (hard_job 0 done) [])
    -- all three, in number order; a bit above n is none of 14's
    ∷ (call_on at_clock2 (tick_call 0xf003 3), ran 2 soft nothing ((12, some 0xf000) ∷ (13, none) ∷ (14, some 0x0003) ∷ []))
    -- 15, before 17
    ∷ (call_on station_a (offer_call 0 0), refuses 15 0)
    ∷ (call_on full_queue (offer_call 0 9), refuses 15 0)
    -- 16, before 17 and 18
    ∷ (call_on station_a (offer_call 3 2), refuses 16 0)
    ∷ (call_on full_queue (offer_call 3 2), refuses 16 0)
    -- 17, where there is room, and before 18; a fully run job keeps its place until it is closed
    ∷ (call_on full_queue (offer_call 1 9), refuses 17 0)
    ∷ (call_on full_queue (offer_call 1 1), refuses 17 0)
    ∷ (call_on (after full_queue (tick_call 0 0 ∷ [])) (offer_call 1 9), refuses 17 0)
    ∷ (call_on (after full_queue (tick_call 0 0 ∷ tick_call 0 0 ∷ [])) (offer_call 1 9), ticket 8)
    -- 18: the rows' claims; the budgets unrun
    ∷ (call_on at_clock2 (offer_call 3 4), refuses 18 0)
    ∷ (call_on (after (fresh_station []) (offer_call 5 5 ∷ [])) (offer_call 1 5), refuses 18 0)
    -- 19: one byte short
    ∷ (output_of table_a 22, refuses 19 0)
    ∷ (output_of table_a 23, passes)
    -- 20, and then nothing is noted; done and soft together are none
    ∷ event_shows 20 (0x21 ∷ 0x00 ∷ 0x03 ∷ 0x00 ∷ 0x00 ∷ 0x04 ∷ []) end_field
    ∷ (call_on station_a (tick_call 0x0004 7), refuses 20 0)
    ∷ (event_of (0x21 ∷ 0x00 ∷ 0x03 ∷ 0x00 ∷ 0x00 ∷ 0x03 ∷ []), passes)
    ∷ (call_on (after station_a (tick_call 0x0003 0 ∷ [])) (tick_call 0 3), ran 1 soft (hard_job 0 done) [])
    -- 21, after 9 in its row and in a row above, before 6 of a row below, and before 10 of a row above
    ∷ file_shows 21 [] (margin_field 2 6 8 0 0) end_field
    ∷ file_shows 9 [] (margin_field 2 6 8 1 0) end_field
    ∷ file_shows 9 (margin_field 2 6 8 0 1) (margin_field 5 12 12 0 1) (margin_field 1 12 12 2 0 ++ end_field)
    ∷ file_shows 21 (margin_field 2 6 8 0 1) (margin_field 5 12 12 1 0) (row_field 0 12 12 2 ++ end_field)
    ∷ file_shows 21 (row_field 2 4 4 0 ++ row_field 3 4 4 1) (margin_field 1 4 4 2 0) end_field
    -- 22, after 21 of a row below, and before 10 of a row below; a margin that just fits; writing, before 19
    ∷ file_shows 22 (row_field 2 6 8 0) (margin_field 5 12 12 1 6) end_field
    ∷ (file_of (row_field 2 6 8 0 ++ (margin_field 5 12 12 1 5 ++ end_field)), passes)
    ∷ file_shows 21 (margin_field 2 6 8 0 5) (margin_field 5 12 12 1 0) end_field
    ∷ file_shows 22 [] (margin_field 2 4 4 0 3) (row_field 3 4 4 1 ++ end_field)
    ∷ (output_of (with_margin 5 (row 2 6 8 0) ∷ []) 0, refuses 22 0)
    ∷ (output_of (with_margin 4 (row 2 6 8 0) ∷ []) 14, refuses 19 0)
    ∷ (output_of (with_margin 4 (row 2 6 8 0) ∷ []) 15, passes)
    ∷ []

-- the number n is found: it refuses, or is noted
abbrev pub given : ℕ → Found → Bool
given n (R_and_U R U) = false
given n (values ws) = false
given n (ran t r c notes) = any (λ k note. eqb note.0 n) 0 notes
given n (ticket t) = false
given n (refuses m row) = eqb m n
given n (shows m from size bytes) = eqb m n
given n passes = false

-- the examples hold, and no number is left out
pub record EveryRefusal : Type 0 where
  pub all_hold : AllHold refusals
  -- of 1 to 22 none is left out
  pub none_missing : first_of (λ n. not (any (λ k line. given n line.1) 0 refusals)) 1 22 ≡ none
