-- An image is a list of bytes, and what is read from a list of bytes has the widths of the block. Assumes nothing.
use Rattle.std.proofs.Common.{ℕ, zero, suc, ◌%◌, ◌^◌, ◌<◌, List, [], ◌∷◌, ◌++◌, replicate, arith}
use Rattle.rules.specs.Tables.{Bytes}
use Rattle.state.specs.Meaning.{entry}
use Rattle.state.specs.declared.Rows.{Rows}
use Rattle.state.specs.declared.State.{State}
use Rattle.block.specs.Places.{C_at, D_at, M_at, T_at, U_at, budget_at, clock_at, count_at, last_at, n_at, next_at, open_at, rank_at, reserved_bytes, rested_at, run_at, stamp_at, ticket_at, used_at}
use Rattle.block.specs.Words.{joined, le_bytes}
use Rattle.block.specs.Layout.{Long, head_bytes, image_of, jobs_bytes, last_number, queue_bytes, reserved, rows_at, state_at, table_bytes}
use Rattle.block.proofs.Arrays.{joined_bytes, numbers_below, read_long}
use Rattle.block.proofs.Last.{named_below}
use Rattle.block.proofs.Widths.{below, both, clean, one_byte}
use Rattle.block.proofs.Trip.{Fit}

zeros_bytes : (n : ℕ) → Bytes (replicate n 0)
zeros_bytes zero = tt
zeros_bytes (suc n) = (omega arith, zeros_bytes n)

-- a list of bytes, named by the list
record Clean (xs : List ℕ) : Type 0 where
  bytes : Bytes xs

then : {xs ys : List ℕ} → Clean xs → Clean ys → Clean (xs ++ ys)
then {xs} {ys} p q = record { bytes = both xs ys p.bytes q.bytes }

number : (w x : ℕ) → x < 256 ^ w → Clean (le_bytes w x)
number w x h = record { bytes = clean w x h }

-- a byte of the front
byte : (x : ℕ) → Clean (x % 256 ∷ [])
byte x = number 1 (x % 256) (omega arith)

array : (w : ℕ) (xs : List ℕ) → ((i : ℕ) → entry xs i < 256 ^ w) → Clean (joined (le_bytes w) xs)
array w xs h = record { bytes = joined_bytes w xs h }

reserved_clean : Clean reserved
unfolding reserved
reserved_clean = record { bytes = zeros_bytes reserved_bytes }

module _ (rows : Rows) (s : State) (F : Fit rows s) where
  head_clean : Clean (head_bytes rows.table.n s)
  unfolding head_bytes
  head_clean =
      then (byte rows.table.n)
      (then (then (byte s.count) (byte (last_number s.last)))
      (then (byte 0) (then (number 4 s.clock F.clock_lt) (then (number 4 s.next F.next_lt) (then (number 2 s.«open» F.open_lt) (number 2 s.rested F.rested_lt))))))

  image_clean : Clean (image_of rows s)
  unfolding image_of table_bytes jobs_bytes queue_bytes
  image_clean =
      then head_clean
      (then (then (array 2 rows.table.c F.c_lt) (then (array 2 rows.table.d F.d_lt) (then (array 2 rows.table.t F.t_lt) (array 2 rows.u F.u_lt))))
      (then (then (array 2 s.run F.run_lt) (array 4 s.stamp F.stamp_lt))
      (then (array 1 rows.table.rank F.rank_lt)
      (then (then (array 2 s.budget F.budget_lt) (then (array 2 s.used F.used_lt) (array 4 s.ticket F.ticket_lt)))
      (then (array 2 rows.table.m F.m_lt) reserved_clean)))))

  pub image_bytes : Bytes (image_of rows s)
  image_bytes = image_clean.bytes

-- what is read

pub long_at : (b : List ℕ) → Long (rows_at b) (state_at b)
long_at b = record {
  c_long = read_long 2 b C_at 16;
  d_long = read_long 2 b D_at 16;
  t_long = read_long 2 b T_at 16;
  u_long = read_long 2 b U_at 16;
  rank_long = read_long 1 b rank_at 16;
  m_long = read_long 2 b M_at 16;
  run_long = read_long 2 b run_at 16;
  stamp_long = read_long 4 b stamp_at 16;
  budget_long = read_long 2 b budget_at 8;
  used_long = read_long 2 b used_at 8;
  ticket_long = read_long 4 b ticket_at 8;
}

module _ (b : List ℕ) (bytes : Bytes b) where
  pub fit_at : Fit (rows_at b) (state_at b)
  fit_at = record {
    n_lt = rw (← one_byte b n_at) (below b bytes 1 n_at);
    c_lt = numbers_below 2 b bytes C_at 16;
    d_lt = numbers_below 2 b bytes D_at 16;
    t_lt = numbers_below 2 b bytes T_at 16;
    u_lt = numbers_below 2 b bytes U_at 16;
    rank_lt = numbers_below 1 b bytes rank_at 16;
    m_lt = numbers_below 2 b bytes M_at 16;
    clock_lt = below b bytes 4 clock_at;
    next_lt = below b bytes 4 next_at;
    open_lt = below b bytes 2 open_at;
    rested_lt = below b bytes 2 rested_at;
    last_below = named_below (entry b last_at);
    count_lt = rw (← one_byte b count_at) (below b bytes 1 count_at);
    run_lt = numbers_below 2 b bytes run_at 16;
    stamp_lt = numbers_below 4 b bytes stamp_at 16;
    budget_lt = numbers_below 2 b bytes budget_at 8;
    used_lt = numbers_below 2 b bytes used_at 8;
    ticket_lt = numbers_below 4 b bytes ticket_at 8;
  }
