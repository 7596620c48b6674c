-- The ranks of n rows as a set are the positions below n exactly when each of 0 to n − 1 is a rank once. Assumes nothing.
use Rattle.std.proofs.Common.{◌≡◌, ℕ, zero, suc, ◌+◌, ◌%◌, ◌^◌, ◌<◌, ◌≤◌, Bool, true, false, cond, eqb, ◌⊎◌, List, length, sym, refl, ◌∙◌, inl, inr, not-suc-le-zero, arith, lt-ltb, eq-eqb, eqb-true}
use mathlib.Core.Bool.{false≢true}
use lib.Bits.{bit_or}
use lib.Pow.{pow-lt}
use native.Mathlib.Decide.{dec_lt}
use Rattle.rules.specs.Lists.{sum}
use Rattle.rules.specs.Rows.{Row}
use Rattle.rules.specs.Tick.{bit}
use Rattle.rules.specs.Tables.{RanksOk, ranked}
use Rattle.rules.proofs.Bools.{or_true}
use Rattle.rules.proofs.Ranks.{below_few, here, ranks_below, sum_ranked}
use Rattle.state.specs.Meaning.{rows_from}
use Rattle.state.specs.Sets.{known}
use Rattle.state.proofs.Bits.{bit_known, bit_one, bit_of_or, bit_past}
use Rattle.state.proofs.Bools.{or_yes}
use Rattle.state.proofs.Entries.{total_rows}
use Rattle.state.proofs.Positions.{all_rows, length_rows}
use Rattle.block.specs.Tests.{or_of}
use Rattle.block.proofs.Bits.{known_below, same_bits}
use Rattle.block.proofs.Ors.{or_below}

-- a bit of numbers together

module _ (f : ℕ → ℕ) (k : ℕ) where
  bit_some : (n : ℕ) → bit (or_of f n) k ≡ true → (i : ℕ) × (i < n) × (bit (f i) k ≡ true)
  unfolding or_of
  bit_some zero e = absurd (false≢true (sym (bit_past 0 0 k (omega arith) (omega arith)) ∙ e))
  bit_some (suc n) e = go (or_true (bit (or_of f n) k) (bit (f n) k) (sym (bit_of_or (or_of f n) (f n) k) ∙ e)) (bit_some n)
    where
      go : (bit (or_of f n) k ≡ true) ⊎ (bit (f n) k ≡ true) → (bit (or_of f n) k ≡ true → (i : ℕ) × (i < n) × (bit (f i) k ≡ true))
          → (i : ℕ) × (i < suc n) × (bit (f i) k ≡ true)
      go (inl x) ih = let (i, l, e) = ih x in (i, omega arith, e)
      go (inr x) ih = (n, omega arith, x)

  some_bit : (n i : ℕ) → i < n → bit (f i) k ≡ true → bit (or_of f n) k ≡ true
  unfolding or_of
  some_bit zero i h e = absurd (not-suc-le-zero h)
  some_bit (suc n) i h e = go (dec_lt i n) (some_bit n i)
    where
      go : Dec (i < n) → (i < n → bit (f i) k ≡ true → bit (or_of f n) k ≡ true) → bit (bit_or (or_of f n) (f n)) k ≡ true
      go (yes l) ih = rw (bit_of_or (or_of f n) (f n) k, ih l e)
      go (no m) ih =
          let q : i ≡ n = omega arith in
          let x : bit (f n) k ≡ true = rw q at e in
          rw (bit_of_or (or_of f n) (f n) k, x) (or_yes (bit (or_of f n) k))

-- sums of 0 and 1

here_same : (x k : ℕ) → 1 ≤ here x k → x ≡ k
here_same x k h = go (eqb x k) refl h
  where
    go : (b : Bool) → eqb x k ≡ b → 1 ≤ cond b 1 0 → x ≡ k
    go true e l = eqb-true x k e
    go false e l = absurd (omega arith)

sum_has : (f : ℕ → ℕ) (n i : ℕ) → i < n → f i ≤ sum n f
sum_has f zero i h = absurd (not-suc-le-zero h)
sum_has f (suc n) i h = go (dec_lt i n) (sum_has f n i)
  where
    go : Dec (i < n) → (i < n → f i ≤ sum n f) → f i ≤ sum n f + f n
    go (yes l) ih = omega (arith, ih l)
    go (no m) ih = let q : i ≡ n = omega arith in rw q (omega arith)

has_sum : (f : ℕ → ℕ) (n : ℕ) → 1 ≤ sum n f → (i : ℕ) × (i < n) × (1 ≤ f i)
has_sum f zero h = absurd (omega arith)
has_sum f (suc n) h = go (dec_lt 0 (f n)) (has_sum f n)
  where
    go : Dec (0 < f n) → (1 ≤ sum n f → (i : ℕ) × (i < n) × (1 ≤ f i)) → (i : ℕ) × (i < suc n) × (1 ≤ f i)
    go (yes l) ih = (n, omega arith, l)
    go (no m) ih = let (i, l, e) = ih (omega arith) in (i, omega arith, e)

ranked_few : (n : ℕ) (rs : List Row) → sum n (λ k. ranked k rs) ≤ length rs
ranked_few n rs = omega (arith, sum_ranked n rs, below_few n rs)

sum_full : (n : ℕ) (g : ℕ → ℕ) → ((k : ℕ) → k < n → 1 ≤ g k) → n ≤ sum n g
sum_full zero g h = omega arith
sum_full (suc n) g h = omega (arith, sum_full n g (λ k l. h k (omega arith)), h n (omega arith))

sum_tight : (n : ℕ) (g : ℕ → ℕ) → ((k : ℕ) → k < n → 1 ≤ g k) → sum n g ≤ n → (k : ℕ) → k < n → g k ≡ 1
sum_tight zero g h e k l = absurd (not-suc-le-zero l)
sum_tight (suc n) g h e k l = go (dec_lt k n) (sum_tight n g (λ j m. h j (omega arith)) (omega (arith, h n (omega arith))) k)
  where
    go : Dec (k < n) → (k < n → g k ≡ 1) → g k ≡ 1
    go (yes m) ih = ih m
    go (no m) ih = let q : k ≡ n = omega arith in rw q (omega (arith, sum_full n g (λ j x. h j (omega arith)), h n (omega arith)))

-- n rows

module _ (g : ℕ → Row) (n : ℕ) (few : n ≤ 16) where
  abbrev rows : List Row
  rows = rows_from g 0 n

  abbrev mark : ℕ → ℕ
  mark i = 2 ^ ((g i).rank % 32)

  ranked_is : (k : ℕ) → ranked k rows ≡ sum n (λ j. here (g j).rank k)
  ranked_is k = total_rows (λ r. here r.rank k) g n

  pub set_once : ((i : ℕ) → i < n → (g i).rank < 32) → or_of mark n ≡ known n → RanksOk rows
  set_once low e k l =
      let long = length_rows g 0 n in
      sum_tight n (λ j. ranked j rows) (λ j m. one j m) (omega (arith, ranked_few n rows)) k (omega arith)
    where
      one : (j : ℕ) → j < n → 1 ≤ ranked j rows
      one j m =
          let (i, a, t) = bit_some mark j n (rw e (bit_known n j few ∙ lt-ltb j n m)) in
          let q : j ≡ (g i).rank % 32 = eqb-true j ((g i).rank % 32) (sym (bit_one ((g i).rank % 32) j) ∙ t) in
          let r : (g i).rank ≡ j = omega (arith, low i a) in
          let h : here (g i).rank j ≡ 1 = rw (eq-eqb (g i).rank j r) in
          omega (arith, ranked_is j, sum_has (λ x. here (g x).rank j) n i a)

  pub rank_lt : RanksOk rows → (i : ℕ) → i < n → (g i).rank < n
  rank_lt ok i l = omega (arith, all_rows (λ r. r.rank < length rows) g 0 n (ranks_below rows ok) i (omega arith) (omega arith), length_rows g 0 n)

  pub once_set : RanksOk rows → or_of mark n ≡ known n
  once_set ok = same_bits n (or_of mark n) (known n) (or_below mark n n low) (known_below n few) (λ k l. some_bit mark k n (found k l).0 (found k l).1 (found k l).2 ∙ sym (bit_known n k few ∙ lt-ltb k n l))
    where
      low : (i : ℕ) → i < n → mark i < 2 ^ n
      low i l = let m = rank_lt ok i l in let e : (g i).rank % 32 ≡ (g i).rank = omega arith in rw e (pow-lt m)

      found : (k : ℕ) → k < n → (i : ℕ) × (i < n) × (bit (mark i) k ≡ true)
      found k l =
          let (i, m, h) = has_sum (λ j. here (g j).rank k) n (omega (arith, ranked_is k, ok k (omega (arith, length_rows g 0 n)))) in
          let q : k ≡ (g i).rank % 32 = omega (arith, here_same (g i).rank k h) in
          (i, m, bit_one ((g i).rank % 32) k ∙ eq-eqb k ((g i).rank % 32) q)
