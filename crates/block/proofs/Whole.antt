-- A block whose free bytes are 0 is the image of what is read from it. Assumes nothing.
use Rattle.std.proofs.Common.{◌≡◌, ℕ, ◌+◌, ◌%◌, ◌<◌, ◌≤◌, List, [], ◌∷◌, ◌++◌, length, drop, replicate, sym, ap, ◌∙◌, subst, append-nil, arith, length-drop, drop_of_length-le, get_or-drop, ext_get_or}
use lib.ListN.{get_or-replicate, length-replicate}
use Rattle.rules.specs.Tables.{Bytes}
use Rattle.rules.proofs.Fields.{byte_lt}
use Rattle.state.specs.Meaning.{entry}
use Rattle.block.specs.Places.{C_at, D_at, M_at, T_at, U_at, block_bytes, budget_at, clock_at, count_at, free_at, last_at, n_at, next_at, open_at, rank_at, reserved_at, reserved_bytes, rested_at, run_at, stamp_at, ticket_at, used_at}
use Rattle.block.specs.Words.{le}
use Rattle.block.specs.Layout.{head_bytes, image_of, jobs_bytes, marks_bytes, numbers_bytes, queue_bytes, reserved, rows_at, state_at, table_bytes}
use Rattle.block.proofs.Arrays.{numbers_stand}
use Rattle.block.proofs.Last.{number_back}
use Rattle.block.proofs.Stands.{Stands, join}
use Rattle.block.proofs.Widths.{stands}

module _ (b : List ℕ) (bytes : Bytes b) (long : length b ≡ block_bytes)
    (free : entry b free_at ≡ 0) (named : entry b last_at ≤ 17) (blank : (i : ℕ) → i < reserved_bytes → entry b (reserved_at + i) ≡ 0) where
  byte : (k : ℕ) → k < block_bytes → Stands b k (entry b k % 256 ∷ []) (drop (k + 1) b)
  byte k h =
      let low : le 1 b k ≡ entry b k % 256 = omega (arith, byte_lt b bytes k) in
      subst (λ x. Stands b k (x ∷ []) (drop (k + 1) b)) low (stands b bytes 1 k (omega arith))

  free_stands : Stands b free_at (0 ∷ []) (drop clock_at b)
  free_stands = subst (λ x. Stands b free_at (x % 256 ∷ []) (drop clock_at b)) free (byte free_at (omega arith))

  marks_stand : Stands b count_at (marks_bytes (state_at b)) (drop free_at b)
  marks_stand = rw (number_back (entry b last_at) named) (join last_at (byte count_at (omega arith)) (byte last_at (omega arith)))

  numbers_are : Stands b clock_at (numbers_bytes (state_at b)) (drop C_at b)
  numbers_are =
      join next_at (stands b bytes 4 clock_at (omega arith))
      (join open_at (stands b bytes 4 next_at (omega arith))
      (join rested_at (stands b bytes 2 open_at (omega arith)) (stands b bytes 2 rested_at (omega arith))))

  head_stands : Stands b n_at (head_bytes (entry b n_at) (state_at b)) (drop C_at b)
  unfolding head_bytes
  head_stands = join count_at (byte n_at (omega arith)) (join free_at marks_stand (join clock_at free_stands numbers_are))

  table_stands : Stands b C_at (table_bytes (rows_at b)) (drop run_at b)
  unfolding table_bytes
  table_stands =
      join D_at (numbers_stand 2 b bytes C_at 16 (omega arith))
      (join T_at (numbers_stand 2 b bytes D_at 16 (omega arith))
      (join U_at (numbers_stand 2 b bytes T_at 16 (omega arith)) (numbers_stand 2 b bytes U_at 16 (omega arith))))

  jobs_stand : Stands b run_at (jobs_bytes (state_at b)) (drop rank_at b)
  unfolding jobs_bytes
  jobs_stand = join stamp_at (numbers_stand 2 b bytes run_at 16 (omega arith)) (numbers_stand 4 b bytes stamp_at 16 (omega arith))

  queue_stands : Stands b budget_at (queue_bytes (state_at b)) (drop M_at b)
  unfolding queue_bytes
  queue_stands =
      join used_at (numbers_stand 2 b bytes budget_at 8 (omega arith))
      (join ticket_at (numbers_stand 2 b bytes used_at 8 (omega arith)) (numbers_stand 4 b bytes ticket_at 8 (omega arith)))

  reserved_is : drop reserved_at b ≡ reserved
  unfolding reserved
  reserved_is =
      let size : length (drop reserved_at b) ≡ reserved_bytes = rw length-drop (omega arith) in
      ext_get_or {A = ℕ} 0 (drop reserved_at b) (replicate reserved_bytes 0) (size ∙ sym (length-replicate {A = ℕ} reserved_bytes 0)) (λ i l.
      let m : i < reserved_bytes = rw size at l in
      get_or-drop reserved_at b i 0 ∙ blank i m ∙ sym (get_or-replicate reserved_bytes i 0 0 m))

  reserved_stands : Stands b reserved_at reserved (drop block_bytes b)
  reserved_stands = record { is = reserved_is ∙ sym (append-nil reserved) ∙ ap (λ l. reserved ++ l) (sym (drop_of_length-le b {i = block_bytes} (omega arith))) }

  pub image_is : image_of (rows_at b) (state_at b) ≡ b
  unfolding image_of
  image_is =
      let all =
      join C_at head_stands
      (join run_at table_stands
      (join rank_at jobs_stand
      (join budget_at (numbers_stand 1 b bytes rank_at 16 (omega arith))
      (join M_at queue_stands
      (join reserved_at (numbers_stand 2 b bytes M_at 16 (omega arith)) reserved_stands))))) in
      sym (all.is ∙ ap (λ l. image_of (rows_at b) (state_at b) ++ l) (drop_of_length-le b {i = block_bytes} (omega arith)) ∙ append-nil (image_of (rows_at b) (state_at b)))
