-- Where each field of the block stands, by the name that the code and docs/block.md give it, and how long the block is. Assumes nothing.
use Rattle.std.specs.Prelude.{ℕ}

-- how many rows
abbrev pub n_at : ℕ
n_at = 0

-- how many firm jobs are queued
abbrev pub count_at : ℕ
count_at = 1

-- the last runner
abbrev pub last_at : ℕ
last_at = 2

-- a byte that is kept free
abbrev pub free_at : ℕ
free_at = 3

-- the clock
abbrev pub clock_at : ℕ
clock_at = 4

-- the next ticket
abbrev pub next_at : ℕ
next_at = 8

-- the open rows
abbrev pub open_at : ℕ
open_at = 12

-- the rested rows
abbrev pub rested_at : ℕ
rested_at = 14

-- C of the rows
abbrev pub C_at : ℕ
C_at = 16

-- D of the rows
abbrev pub D_at : ℕ
D_at = 48

-- T of the rows
abbrev pub T_at : ℕ
T_at = 80

-- U of the rows
abbrev pub U_at : ℕ
U_at = 112

-- ticks run of the rows' jobs
abbrev pub run_at : ℕ
run_at = 144

-- stamps of the rows
abbrev pub stamp_at : ℕ
stamp_at = 176

-- ranks of the rows
abbrev pub rank_at : ℕ
rank_at = 240

-- budgets of the firm jobs
abbrev pub budget_at : ℕ
budget_at = 256

-- ticks run of the firm jobs
abbrev pub used_at : ℕ
used_at = 272

-- tickets of the firm jobs
abbrev pub ticket_at : ℕ
ticket_at = 288

-- M of the rows
abbrev pub M_at : ℕ
M_at = 320

-- the bytes that are kept free, to the end
abbrev pub reserved_at : ℕ
reserved_at = 352

-- how many they are
abbrev pub reserved_bytes : ℕ
reserved_bytes = 160

-- the whole block
abbrev pub block_bytes : ℕ
block_bytes = 512
