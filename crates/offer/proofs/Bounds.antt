-- What a row claims stays below 2^32, and its future jobs claim nothing once one of them is promoted after the window. Assumes nothing.
use Rattle.std.proofs.Common.{ℕ, ◌+◌, ◌-◌, ◌*◌, ◌<◌, ◌≤◌, ◌≡◌, Option, None, Some, mul-le-mul_right, arith}
use Rattle.rules.specs.Lists.{sum}
use Rattle.offer.specs.declared.room.RowNow.{RowNow}
use Rattle.offer.specs.Steps.{claim_of, future_at, future_of, open_of}
use Rattle.offer.proofs.Sums.{sum_le, sum_stops}

module _ (r : RowNow) (d : ℕ) where
  pub future_le : r.c < 65536 → (n : ℕ) → sum n (future_at r d) ≤ n * 65535
  future_le h n = sum_le (future_at r d) 65535 n (λ k. omega arith)

  pub future_stops : (k : ℕ) → k ≤ d → d ≤ r.t - r.age + r.u + k * r.t → future_of r d ≡ sum k (future_at r d)
  future_stops k l h = sum_stops (future_at r d) k d l (λ j m. let o : k * r.t ≤ j * r.t = mul-le-mul_right r.t m in omega arith)

  open_le : r.c < 65536 → (o : Option ℕ) → open_of r d o ≤ 65535
  open_le h None = omega arith
  open_le h (Some run) = omega arith

  -- an open job and 65535 future ones, of 65535 ticks each
  pub claim_le : r.c < 65536 → d < 65536 → claim_of r d ≤ 65536 * 65535
  claim_le h l = omega (arith, open_le h r.run, future_le h d)
