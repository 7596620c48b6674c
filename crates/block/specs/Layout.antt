-- The block: what stands at each place, and the one image of a state. Assumes nothing.
use Rattle.std.specs.Prelude.{◌≡◌, ℕ, ◌%◌, cond, List, [], ◌∷◌, ◌++◌, length, replicate, ◌==◌, nat_lt}
use Rattle.std.proofs.lemmas.List.Edits.{sets}
use Rattle.state.specs.Meaning.{entry}
use Rattle.state.specs.declared.Last.{Last}
use Rattle.state.specs.declared.Last.TheVariants.{Hard, Firm, Nobody}
use Rattle.state.specs.declared.Rows.{Rows}
use Rattle.state.specs.declared.State.{State}
use Rattle.block.specs.Places.{C_at, D_at, M_at, T_at, U_at, block_bytes, budget_at, clock_at, count_at, last_at, n_at, next_at, open_at, rank_at, reserved_bytes, rested_at, run_at, stamp_at, ticket_at, used_at}
use Rattle.block.specs.Words.{joined, le, le_bytes, les_at}

-- the job that ran last as a number: a row by its place, 16 the first firm job, 17 nobody

-- of a number
abbrev pub last_named : ℕ → Last
last_named k = cond (nat_lt k 16) (Hard k) (cond (k == 16) Firm Nobody)

-- its number
abbrev pub last_number : Last → ℕ
last_number (Hard i) = i
last_number Firm = 16
last_number Nobody = 17

-- read

-- what no tick changes
abbrev pub rows_at : List ℕ → Rows
rows_at b = record {
  table = record { n = entry b n_at; c = les_at 2 b C_at 16; d = les_at 2 b D_at 16; t = les_at 2 b T_at 16; rank = les_at 1 b rank_at 16; m = les_at 2 b M_at 16 };
  u = les_at 2 b U_at 16;
}

-- what ticks and offers change
abbrev pub state_at : List ℕ → State
state_at b = record {
  clock = le 4 b clock_at;
  next = le 4 b next_at;
  «open» = le 2 b open_at;
  rested = le 2 b rested_at;
  last = last_named (entry b last_at);
  count = entry b count_at;
  run = les_at 2 b run_at 16;
  stamp = les_at 4 b stamp_at 16;
  budget = les_at 2 b budget_at 8;
  used = les_at 2 b used_at 8;
  ticket = les_at 4 b ticket_at 8;
}

-- the image, part after part, each from a place up to the next part's

-- from count_at: how many firm jobs, and the last runner
abbrev pub marks_bytes : State → List ℕ
marks_bytes s = s.count % 256 ∷ last_number s.last % 256 ∷ []

-- from clock_at: the clock, the next ticket, the open rows, the rested rows
abbrev pub numbers_bytes : State → List ℕ
numbers_bytes s = le_bytes 4 s.clock ++ (le_bytes 4 s.next ++ (le_bytes 2 s.«open» ++ le_bytes 2 s.rested))

-- from n_at: how many rows, the marks, the free byte, the numbers
unfoldable pub head_bytes : ℕ → State → List ℕ
head_bytes n s = n % 256 ∷ (marks_bytes s ++ (0 ∷ numbers_bytes s))

-- from C_at
unfoldable pub table_bytes : Rows → List ℕ
table_bytes rows = joined (le_bytes 2) rows.table.c ++ (joined (le_bytes 2) rows.table.d ++ (joined (le_bytes 2) rows.table.t ++ joined (le_bytes 2) rows.u))

-- from run_at
unfoldable pub jobs_bytes : State → List ℕ
jobs_bytes s = joined (le_bytes 2) s.run ++ joined (le_bytes 4) s.stamp

-- from rank_at
abbrev pub ranks_bytes : Rows → List ℕ
ranks_bytes rows = joined (le_bytes 1) rows.table.rank

-- from budget_at
unfoldable pub queue_bytes : State → List ℕ
queue_bytes s = joined (le_bytes 2) s.budget ++ (joined (le_bytes 2) s.used ++ joined (le_bytes 4) s.ticket)

-- from M_at
abbrev pub margins_bytes : Rows → List ℕ
margins_bytes rows = joined (le_bytes 2) rows.table.m

-- from reserved_at
unfoldable pub reserved : List ℕ
reserved = replicate reserved_bytes 0

-- the whole
unfoldable pub image_of : Rows → State → List ℕ
image_of rows s = head_bytes rows.table.n s ++ (table_bytes rows ++ (jobs_bytes s ++ (ranks_bytes rows ++ (queue_bytes s ++ (margins_bytes rows ++ reserved)))))

-- the arrays have the lengths of their types
pub record Long (rows : Rows) (s : State) : Type 0 where
  pub c_long : length rows.table.c ≡ 16
  pub d_long : length rows.table.d ≡ 16
  pub t_long : length rows.table.t ≡ 16
  pub u_long : length rows.u ≡ 16
  pub rank_long : length rows.table.rank ≡ 16
  pub m_long : length rows.table.m ≡ 16
  pub run_long : length s.run ≡ 16
  pub stamp_long : length s.stamp ≡ 16
  pub budget_long : length s.budget ≡ 8
  pub used_long : length s.used ≡ 8
  pub ticket_long : length s.ticket ≡ 8

-- written

-- the whole image over a block of the right length; any other list stays
unfoldable pub encoded_on : List ℕ → Rows → State → List ℕ
encoded_on b rows s = cond (length b == block_bytes) (image_of rows s) b

-- what a tick or an offer changes, over the image of the state before
abbrev pub state_on : List ℕ → State → List ℕ
state_on b s = sets (sets (sets (sets b count_at (marks_bytes s)) clock_at (numbers_bytes s)) run_at (jobs_bytes s)) budget_at (queue_bytes s)

-- the same on a block of the right length; any other list stays
unfoldable pub written_on : List ℕ → State → List ℕ
written_on b s = cond (length b == block_bytes) (state_on b s) b
