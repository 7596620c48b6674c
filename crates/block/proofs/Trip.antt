-- The image of a state is read back as the state. Assumes nothing.
use Rattle.std.proofs.Common.{◌≡◌, ℕ, ◌^◌, ◌<◌, List, ◌++◌, drop, refl, append_assoc, arith}
use Rattle.state.specs.declared.Rows.{Rows}
use Rattle.state.specs.declared.State.{State}
use Rattle.state.specs.Meaning.{LastBelow, entry}
use Rattle.block.specs.Places.{C_at, D_at, M_at, T_at, U_at, budget_at, clock_at, count_at, free_at, last_at, n_at, next_at, open_at, rank_at, reserved_at, rested_at, run_at, stamp_at, ticket_at, used_at}
use Rattle.block.specs.Words.{joined, le, le_bytes}
use Rattle.block.specs.Layout.{Long, head_bytes, image_of, jobs_bytes, last_named, queue_bytes, reserved, rows_at, state_at, table_bytes}
use Rattle.block.proofs.Arrays.{joined_long, numbers_back}
use Rattle.block.proofs.Last.{named_back}
use Rattle.block.proofs.Stands.{Stands, behind}

-- the numbers have the widths of the block
pub record Fit (rows : Rows) (s : State) : Type 0 where
  pub n_lt : rows.table.n < 2 ^ 8
  pub c_lt : (i : ℕ) → entry rows.table.c i < 2 ^ 16
  pub d_lt : (i : ℕ) → entry rows.table.d i < 2 ^ 16
  pub t_lt : (i : ℕ) → entry rows.table.t i < 2 ^ 16
  pub u_lt : (i : ℕ) → entry rows.u i < 2 ^ 16
  pub rank_lt : (i : ℕ) → entry rows.table.rank i < 2 ^ 8
  pub m_lt : (i : ℕ) → entry rows.table.m i < 2 ^ 16
  pub clock_lt : s.clock < 2 ^ 32
  pub next_lt : s.next < 2 ^ 32
  pub open_lt : s.«open» < 2 ^ 16
  pub rested_lt : s.rested < 2 ^ 16
  pub last_below : LastBelow s.last
  pub count_lt : s.count < 2 ^ 8
  pub run_lt : (i : ℕ) → entry s.run i < 2 ^ 16
  pub stamp_lt : (i : ℕ) → entry s.stamp i < 2 ^ 32
  pub budget_lt : (i : ℕ) → entry s.budget i < 2 ^ 16
  pub used_lt : (i : ℕ) → entry s.used i < 2 ^ 16
  pub ticket_lt : (i : ℕ) → entry s.ticket i < 2 ^ 32

module _ (rows : Rows) (s : State) (L : Long rows s) (F : Fit rows s) where
  -- the arrays, one behind the other

  abbrev margins : List ℕ
  margins = joined (le_bytes 2) rows.table.m ++ reserved

  abbrev firms : List ℕ
  firms = joined (le_bytes 2) s.budget ++ (joined (le_bytes 2) s.used ++ (joined (le_bytes 4) s.ticket ++ margins))

  abbrev jobs : List ℕ
  jobs = joined (le_bytes 2) s.run ++ (joined (le_bytes 4) s.stamp ++ (joined (le_bytes 1) rows.table.rank ++ firms))

  c_stands : Stands (image_of rows s) C_at (joined (le_bytes 2) rows.table.c) (joined (le_bytes 2) rows.table.d ++ (joined (le_bytes 2) rows.table.t ++ (joined (le_bytes 2) rows.u ++ jobs)))
  unfolding image_of head_bytes table_bytes jobs_bytes queue_bytes
  c_stands = record { is = simp append_assoc }

  d_stands : Stands (image_of rows s) D_at (joined (le_bytes 2) rows.table.d) (joined (le_bytes 2) rows.table.t ++ (joined (le_bytes 2) rows.u ++ jobs))
  d_stands = record { is = behind c_stands (joined_long 2 rows.table.c 16 L.c_long) }

  t_stands : Stands (image_of rows s) T_at (joined (le_bytes 2) rows.table.t) (joined (le_bytes 2) rows.u ++ jobs)
  t_stands = record { is = behind d_stands (joined_long 2 rows.table.d 16 L.d_long) }

  u_stands : Stands (image_of rows s) U_at (joined (le_bytes 2) rows.u) jobs
  u_stands = record { is = behind t_stands (joined_long 2 rows.table.t 16 L.t_long) }

  run_stands : Stands (image_of rows s) run_at (joined (le_bytes 2) s.run) (joined (le_bytes 4) s.stamp ++ (joined (le_bytes 1) rows.table.rank ++ firms))
  run_stands = record { is = behind u_stands (joined_long 2 rows.u 16 L.u_long) }

  stamp_stands : Stands (image_of rows s) stamp_at (joined (le_bytes 4) s.stamp) (joined (le_bytes 1) rows.table.rank ++ firms)
  stamp_stands = record { is = behind run_stands (joined_long 2 s.run 16 L.run_long) }

  rank_stands : Stands (image_of rows s) rank_at (joined (le_bytes 1) rows.table.rank) firms
  rank_stands = record { is = behind stamp_stands (joined_long 4 s.stamp 16 L.stamp_long) }

  budget_stands : Stands (image_of rows s) budget_at (joined (le_bytes 2) s.budget) (joined (le_bytes 2) s.used ++ (joined (le_bytes 4) s.ticket ++ margins))
  budget_stands = record { is = behind rank_stands (joined_long 1 rows.table.rank 16 L.rank_long) }

  used_stands : Stands (image_of rows s) used_at (joined (le_bytes 2) s.used) (joined (le_bytes 4) s.ticket ++ margins)
  used_stands = record { is = behind budget_stands (joined_long 2 s.budget 8 L.budget_long) }

  ticket_stands : Stands (image_of rows s) ticket_at (joined (le_bytes 4) s.ticket) margins
  ticket_stands = record { is = behind used_stands (joined_long 2 s.used 8 L.used_long) }

  m_stands : Stands (image_of rows s) M_at (joined (le_bytes 2) rows.table.m) reserved
  m_stands = record { is = behind ticket_stands (joined_long 4 s.ticket 8 L.ticket_long) }

  pub reserved_stands : drop reserved_at (image_of rows s) ≡ reserved
  reserved_stands = behind m_stands (joined_long 2 rows.table.m 16 L.m_long)

  -- the numbers in front

  n_back : entry (image_of rows s) n_at ≡ rows.table.n
  unfolding image_of head_bytes
  n_back = omega (arith, F.n_lt)

  count_back : entry (image_of rows s) count_at ≡ s.count
  unfolding image_of head_bytes
  count_back = omega (arith, F.count_lt)

  last_back : last_named (entry (image_of rows s) last_at) ≡ s.last
  unfolding image_of head_bytes
  last_back = named_back s.last F.last_below

  pub free_back : entry (image_of rows s) free_at ≡ 0
  unfolding image_of head_bytes
  free_back = refl

  clock_back : le 4 (image_of rows s) clock_at ≡ s.clock
  unfolding image_of head_bytes
  clock_back = omega (arith, F.clock_lt)

  next_back : le 4 (image_of rows s) next_at ≡ s.next
  unfolding image_of head_bytes
  next_back = omega (arith, F.next_lt)

  open_back : le 2 (image_of rows s) open_at ≡ s.«open»
  unfolding image_of head_bytes
  open_back = omega (arith, F.open_lt)

  rested_back : le 2 (image_of rows s) rested_at ≡ s.rested
  unfolding image_of head_bytes
  rested_back = omega (arith, F.rested_lt)

  -- the whole

  pub rows_back : rows_at (image_of rows s) ≡ rows
  rows_back =
      rw (
        n_back,
        numbers_back 2 rows.table.c c_stands L.c_long F.c_lt,
        numbers_back 2 rows.table.d d_stands L.d_long F.d_lt,
        numbers_back 2 rows.table.t t_stands L.t_long F.t_lt,
        numbers_back 2 rows.u u_stands L.u_long F.u_lt,
        numbers_back 1 rows.table.rank rank_stands L.rank_long F.rank_lt,
        numbers_back 2 rows.table.m m_stands L.m_long F.m_lt,
      )

  pub state_back : state_at (image_of rows s) ≡ s
  state_back =
      rw (
        clock_back,
        next_back,
        open_back,
        rested_back,
        last_back,
        count_back,
        numbers_back 2 s.run run_stands L.run_long F.run_lt,
        numbers_back 4 s.stamp stamp_stands L.stamp_long F.stamp_lt,
        numbers_back 2 s.budget budget_stands L.budget_long F.budget_lt,
        numbers_back 2 s.used used_stands L.used_long F.used_lt,
        numbers_back 4 s.ticket ticket_stands L.ticket_long F.ticket_lt,
      )
