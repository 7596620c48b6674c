-- Each part of an image reaches from its place to the next part's, and the whole is as long as a block. Assumes nothing.
use Rattle.std.proofs.Common.{◌≡◌, ℕ, ◌+◌, length, refl, arith, length-append}
use lib.ListN.{length-replicate}
use Rattle.state.specs.declared.Rows.{Rows}
use Rattle.state.specs.declared.State.{State}
use Rattle.block.specs.Places.{C_at, M_at, block_bytes, budget_at, rank_at, reserved_at, reserved_bytes, run_at}
use Rattle.block.specs.Layout.{Long, head_bytes, image_of, jobs_bytes, margins_bytes, queue_bytes, ranks_bytes, reserved, table_bytes}
use Rattle.block.proofs.Arrays.{joined_long}

pub head_long : (n : ℕ) (s : State) → length (head_bytes n s) ≡ C_at
unfolding head_bytes
head_long n s = refl

module _ (rows : Rows) (s : State) (L : Long rows s) where
  pub table_long : C_at + length (table_bytes rows) ≡ run_at
  unfolding table_bytes
  table_long = simp length-append (omega (arith, joined_long 2 rows.table.c 16 L.c_long, joined_long 2 rows.table.d 16 L.d_long, joined_long 2 rows.table.t 16 L.t_long, joined_long 2 rows.u 16 L.u_long))

  pub jobs_long : run_at + length (jobs_bytes s) ≡ rank_at
  unfolding jobs_bytes
  jobs_long = simp length-append (omega (arith, joined_long 2 s.run 16 L.run_long, joined_long 4 s.stamp 16 L.stamp_long))

  pub ranks_long : rank_at + length (ranks_bytes rows) ≡ budget_at
  ranks_long = omega (arith, joined_long 1 rows.table.rank 16 L.rank_long)

  pub queue_long : budget_at + length (queue_bytes s) ≡ M_at
  unfolding queue_bytes
  queue_long = simp length-append (omega (arith, joined_long 2 s.budget 8 L.budget_long, joined_long 2 s.used 8 L.used_long, joined_long 4 s.ticket 8 L.ticket_long))

  margins_long : M_at + length (margins_bytes rows) ≡ reserved_at
  margins_long = omega (arith, joined_long 2 rows.table.m 16 L.m_long)

  reserved_long : reserved_at + length reserved ≡ block_bytes
  unfolding reserved
  reserved_long = omega (arith, length-replicate {A = ℕ} reserved_bytes 0)

  pub image_long : length (image_of rows s) ≡ block_bytes
  unfolding image_of
  image_long = simp length-append (omega (arith, head_long rows.table.n s, table_long, jobs_long, ranks_long, queue_long, margins_long, reserved_long))
