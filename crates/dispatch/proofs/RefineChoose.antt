-- Step 3 in memory is step 3 of the rules: the runner. Assumes nothing.
use Rattle.std.proofs.Common.{◌≡◌, ℕ, zero, suc, ◌+◌, ◌^◌, ◌<◌, ◌≤◌, Bool, true, false, cond, not, ◌&&◌, ◌||◌, ltb, leb, sym, refl, ap, ◌∙◌, le_of_suc-le-suc, not-suc-le-zero, lt_of_le_of_lt, add-zero, arith, ltb-false, lt-ltb, le-leb}
use Rattle.std.specs.Prelude as Memory
use Rattle.std.specs.Prelude.{None, Some}
use mathlib.Core.Option.{Option, get_or, map, none, some}
use lib.Bits.{and_le_l, bit_or}
use Rattle.rules.specs.Lists.{find, or_else}
use Rattle.rules.specs.Station.{Slot, closed, is_open, opened, promoted, unpromoted}
use Rattle.rules.specs.Tick.{bit, choose, firm_runner, hard, idle, lower, lowest, soft_runner, upper}
use Rattle.rules.specs.Tick as rules
use Rattle.state.specs.declared.Rows.{Rows}
use Rattle.state.specs.declared.State.{State}
use Rattle.state.specs.Meaning.{Kept, age_at, entry, firm_at, firms_of, rows_from, slot_at, slots_of, wrapped}
use Rattle.state.specs.Sets.{least}
use Rattle.state.proofs.Bits.{bit_of_and, bit_of_or, found, least_below}
use Rattle.state.proofs.Positions.{find_least}
use Rattle.answer.specs.declared.Band.TheVariants.{Upper}
use Rattle.answer.specs.declared.Runner.TheVariants.{Firm, Hard, Soft}
use Rattle.answer.specs.Answers.{runner_of}
use Rattle.dispatch.specs.declared.sets.Best.{Best}
use Rattle.dispatch.specs.Loops.{aged_at, better, fold_rows, low_at, rows_that}
use Rattle.dispatch.specs.Steps.{chosen_in, lower_of, promoted_rows}
use Rattle.dispatch.proofs.Arrays.{bit_that}
use Rattle.dispatch.proofs.Loops.{fold_skip}

-- a fold past the last row that counts
fold_short : {B : Type 0} (f : ℕ → B → B) (k i m : ℕ) (b : B) → k ≤ m → ((j : ℕ) → i + k ≤ j → (c : B) → f j c ≡ c) → fold_rows f i m b ≡ fold_rows f i k b
unfolding fold_rows
fold_short f zero i m b h still = rw add-zero at (fold_skip f m i 0 b (λ j l n. still j (omega arith)))
fold_short f (suc k) i zero b h still = absurd (not-suc-le-zero h)
fold_short f (suc k) i (suc m) b h still = fold_short f k (suc i) m (f i b) (le_of_suc-le-suc h) (λ j l. still j (omega arith))

-- the best so far, in memory and in the rules

abbrev as_best : Memory.Option Best → Option (ℕ × ℕ)
as_best None = none
as_best (Some b) = some (b.row, b.rank)

better_is : (rank i : ℕ) (b : Memory.Option Best) (x : Slot) → rank < 256 → x.row.rank ≡ rank → rules.better (as_best b) i x ≡ as_best (better rank i b)
better_is rank i None x h e = rw (e, lt-ltb rank 256 h)
better_is rank i (Some b) x h e = rw e (go (ltb rank b.rank))
  where
    go : (t : Bool) → cond t (some (i, rank)) (some (b.row, b.rank)) ≡ as_best (Some (cond t (record { rank = rank; row = i }) b))
    go true = refl
    go false = refl

-- each U is at most T
module _ (rows : Rows) (s : State) (K : Kept rows s) (U_le : (i : ℕ) → i < rows.table.n → entry rows.u i ≤ entry rows.table.t i) where
  -- the upper band

  promoted_is : (j : ℕ) → j < rows.table.n → bit (promoted_rows rows s) j ≡ promoted (slot_at rows s j)
  promoted_is j h =
      let p = aged_at rows.u s.stamp s.clock in
      rw (bit_of_and s.«open» (bit_or s.rested (rows_that p 16)) j, bit_of_or s.rested (rows_that p 16) j, bit_that p 16 j (omega (arith, K.table.few)))
      (go (bit s.«open» j) (bit s.rested j))
    where
      go : (o r : Bool) → (o && (r || leb (entry rows.u j) (wrapped s.clock (entry s.stamp j))))
          ≡ (is_open (cond o (opened (entry s.run j)) closed) && leb (entry rows.u j) (cond r (entry rows.table.t j) (wrapped s.clock (entry s.stamp j))))
      go true true = sym (le-leb (entry rows.u j) (entry rows.table.t j) (U_le j h))
      go true false = refl
      go false r = refl

  promoted_lt : promoted_rows rows s < 2 ^ 16
  promoted_lt = lt_of_le_of_lt (and_le_l s.«open» (bit_or s.rested (rows_that (aged_at rows.u s.stamp s.clock) 16))) K.jobs.open_lt

  upper_is : find (λ k x. promoted x) 0 (slots_of rows s) ≡ found (least (promoted_rows rows s))
  upper_is = find_least (λ k x. promoted x) (slot_at rows s) (promoted_rows rows s) rows.table.n promoted_lt K.table.few promoted_is
      (λ j h. rw (bit_of_and s.«open» (bit_or s.rested (rows_that (aged_at rows.u s.stamp s.clock) 16)) j, K.jobs.open_past j h))

  -- the lower band, where no job is promoted

  module _ (none_up : 16 ≤ least (promoted_rows rows s)) where
    unpromoted_is : (j : ℕ) → j < rows.table.n → unpromoted (slot_at rows s j) ≡ bit s.«open» j
    unpromoted_is j h = go (bit s.«open» j) (leb (entry rows.u j) (age_at rows s j)) (sym (promoted_is j h) ∙ least_below (promoted_rows rows s) j promoted_lt (omega (arith, K.table.few)))
      where
        go : (o p : Bool) → (is_open (cond o (opened (entry s.run j)) closed) && p) ≡ false → (is_open (cond o (opened (entry s.run j)) closed) && not p) ≡ o
        go true p e = rw e
        go false p e = refl

    low_is : (j : ℕ) → j < rows.table.n → (b : Memory.Option Best) → cond (unpromoted (slot_at rows s j)) (rules.better (as_best b) j (slot_at rows s j)) (as_best b) ≡ as_best (low_at rows.table.rank s.«open» j b)
    low_is j h b = rw (unpromoted_is j h) (go (bit s.«open» j))
      where
        go : (o : Bool) → cond o (rules.better (as_best b) j (slot_at rows s j)) (as_best b) ≡ as_best (cond o (better (entry rows.table.rank j) j b) b)
        go true = better_is (entry rows.table.rank j) j b (slot_at rows s j) (K.table.rank_lt j) refl
        go false = refl

    lowest_is : (i k : ℕ) (b : Memory.Option Best) → i + k ≤ rows.table.n → lowest (as_best b) i (rows_from (slot_at rows s) i k) ≡ as_best (fold_rows (low_at rows.table.rank s.«open») i k b)
    unfolding rows_from fold_rows
    lowest_is i zero b h = refl
    lowest_is i (suc k) b h = ap (λ best. lowest best (suc i) (rows_from (slot_at rows s) (suc i) k)) (low_is i (omega arith) b) ∙ lowest_is (suc i) k (low_at rows.table.rank s.«open» i b) (omega arith)

    lower_is : lowest none 0 (slots_of rows s) ≡ as_best (fold_rows (low_at rows.table.rank s.«open») 0 16 None)
    lower_is = lowest_is 0 rows.table.n None (omega arith) ∙ ap as_best (sym (fold_short (low_at rows.table.rank s.«open») rows.table.n 0 16 None K.table.few (λ j h b. rw (K.jobs.open_past j (omega arith)))))

  -- all of it

  lower_runner : (b : Memory.Option Best) → lower_of b ≡ runner_of (get_or (map (λ (best : ℕ × ℕ). hard best.0 lower) (as_best b)) idle)
  lower_runner None = refl
  lower_runner (Some b) = refl

  pub choose_refines : (wants : Bool) → chosen_in rows s wants ≡ runner_of (choose (slots_of rows s) (firms_of s) wants)
  unfolding rows_from
  choose_refines wants = rw upper_is (go (ltb (least (promoted_rows rows s)) 16) refl)
    where
      others : 16 ≤ least (promoted_rows rows s) → (k : ℕ) (w : Bool)
          → cond (ltb 0 k) (Firm (entry s.ticket 0)) (cond w Soft (lower_of (fold_rows (low_at rows.table.rank s.«open») 0 16 None)))
          ≡ runner_of (get_or (or_else (firm_runner (rows_from (firm_at s) 0 k)) (or_else (soft_runner w) (map (λ (best : ℕ × ℕ). hard best.0 lower) (lowest none 0 (slots_of rows s))))) idle)
      others h (suc k) w = rw (lt-ltb 0 (suc k) (omega arith))
      others h zero true = refl
      others h zero false = rw (lower_is h) (lower_runner (fold_rows (low_at rows.table.rank s.«open») 0 16 None))

      go : (t : Bool) → ltb (least (promoted_rows rows s)) 16 ≡ t
          → cond t (Hard (least (promoted_rows rows s)) Upper)
          (cond (ltb 0 s.count) (Firm (entry s.ticket 0)) (cond wants Soft (lower_of (fold_rows (low_at rows.table.rank s.«open») 0 16 None))))
          ≡ runner_of (get_or (or_else (map (λ k. hard k upper) (cond t (some (least (promoted_rows rows s))) none))
          (or_else (firm_runner (firms_of s)) (or_else (soft_runner wants) (map (λ (best : ℕ × ℕ). hard best.0 lower) (lowest none 0 (slots_of rows s)))))) idle)
      go true e = refl
      go false e = others (ltb-false (least (promoted_rows rows s)) 16 e) s.count wants
