-- Sums as a loop adds them up: a bound on each term, and terms that have run out. Assumes nothing.
use Rattle.std.proofs.Common.{◌≡◌, ℕ, zero, suc, ◌+◌, ◌-◌, ◌*◌, ◌≤◌, sym, ap, ◌∙◌, suc-mul, arith}
use Rattle.rules.specs.Lists.{sum}
use Rattle.rules.proofs.Claims.{sum_on}

module _ (f : ℕ → ℕ) where
  pub sum_le : (b n : ℕ) → ((k : ℕ) → f k ≤ b) → sum n f ≤ n * b
  sum_le b zero h = omega arith
  sum_le b (suc n) h = rw suc-mul (omega (arith, sum_le b n h, h n))

  -- from k on the terms are 0
  pub sum_stops : (k n : ℕ) → k ≤ n → ((j : ℕ) → k ≤ j → f j ≡ 0) → sum n f ≡ sum k f
  sum_stops k n l z = let e : k + (n - k) ≡ n = omega arith in sym (ap (λ m. sum m f) e) ∙ sum_on k (n - k) f z
