-- Step 2 in memory is step 2 of the rules. Assumes nothing.
use Rattle.std.proofs.Common.{◌≡◌, ℕ, ◌^◌, ◌<◌, ◌≤◌, Bool, true, false, cond, not, ◌&&◌, ◌||◌, sym, refl, ◌∙◌, true≢false, lt_of_le_of_lt, arith}
use Rattle.std.proofs.Math.Bool.{or-false}
use mathlib.Core.Bool.{false≢true}
use lib.Bits.{bit_and, and_le_l, or_lt}
use Rattle.rules.specs.Station.{closed, hold, opened}
use Rattle.rules.specs.Tick.{bit, release, released}
use Rattle.rules.proofs.Bools.{and_no, and_true, and_yes, or_false}
use Rattle.table.specs.Memory.{table_row}
use Rattle.state.specs.declared.Rows.{Rows}
use Rattle.state.specs.declared.State.{State}
use Rattle.state.specs.Meaning.{Kept, entry, slot_at, slots_of, wrapped}
use Rattle.state.specs.Sets.{others}
use Rattle.state.proofs.Bits.{bit_of_or}
use Rattle.state.proofs.Positions.{each_rows}
use Rattle.dispatch.specs.Loops.{marked, upto}
use Rattle.dispatch.specs.Steps.{released_by}
use Rattle.dispatch.proofs.Arrays.{bit_minus, length_upto, stamped_at}

age_now : (clock : ℕ) → clock < 2 ^ 32 → wrapped clock clock ≡ 0
age_now clock h = omega arith

-- the rows of the set are known, and have no job open; no T is 0
module _ (rows : Rows) (s : State) (K : Kept rows s) (set : ℕ) (small : set < 2 ^ 16) (known : (i : ℕ) → rows.table.n ≤ i → bit set i ≡ false)
    (ready : (i : ℕ) → i < rows.table.n → bit set i ≡ true → bit s.«open» i ≡ false) (positive : (i : ℕ) → i < rows.table.n → 1 ≤ entry rows.table.t i) where
  stamp_is : (i : ℕ) → entry (upto (marked set s.clock) 16 s.stamp) i ≡ cond (bit set i) s.clock (entry s.stamp i)
  stamp_is = stamped_at s.stamp set s.clock K.times.stamps small

  rested_is : (i : ℕ) → bit (bit_and s.rested (others set)) i ≡ (bit s.rested i && not (bit set i))
  rested_is = bit_minus s.rested set K.times.rested_lt small

  slot_is : (j : ℕ) → j < rows.table.n → slot_at rows (released_by s set) j ≡ cond (bit set j) (released (slot_at rows s j)) (slot_at rows s j)
  slot_is j h = rw (bit_of_or s.«open» set j, rested_is j, stamp_is j) (go (bit set j) refl)
    where
      go : (b : Bool) → bit set j ≡ b
          → record {
            row = table_row rows.table j;
            U = entry rows.u j;
            age = cond (bit s.rested j && not b) (hold (table_row rows.table j)) (wrapped s.clock (cond b s.clock (entry s.stamp j)));
            job = cond (bit s.«open» j || b) (opened (entry s.run j)) closed;
          } ≡ cond b (released (slot_at rows s j)) (slot_at rows s j)
      go true e = rw (and_no (bit s.rested j), age_now s.clock K.times.clock_lt, ready j h e, K.jobs.run_blank j (ready j h e))
      go false e = rw (and_yes (bit s.rested j), or-false (bit s.«open» j))

  pub release_refines : slots_of rows (released_by s set) ≡ release (bit set) (slots_of rows s)
  release_refines = each_rows (λ k x. cond (bit set k) (released x) x) (slot_at rows s) (slot_at rows (released_by s set)) 0 rows.table.n (λ j h. slot_is j (omega arith))

  stamp_lt : (b : Bool) (x : ℕ) → x < 2 ^ 32 → cond b s.clock x < 2 ^ 32
  stamp_lt true x h = K.times.clock_lt
  stamp_lt false x h = h

  young : (j : ℕ) → j < rows.table.n → (b r : Bool) → bit s.rested j ≡ r → (r && not b) ≡ false → wrapped s.clock (cond b s.clock (entry s.stamp j)) < entry rows.table.t j
  young j h true r q e = rw (age_now s.clock K.times.clock_lt) (positive j h)
  young j h false true q e = absurd (true≢false e)
  young j h false false q e = K.times.young j h q

  blank : (b r : Bool) (x : ℕ) → (r ≡ true → x ≡ 0) → (r && not b) ≡ true → cond b s.clock x ≡ 0
  blank true r x z e = absurd (false≢true (sym (and_no r) ∙ e))
  blank false r x z e = z (and_true r true e).0

  pub release_kept : Kept rows (released_by s set)
  release_kept = record {
    table = K.table;
    times = record {
      clock_lt = K.times.clock_lt;
      rested_lt = lt_of_le_of_lt (and_le_l s.rested (others set)) K.times.rested_lt;
      stamps = length_upto (marked set s.clock) 16 s.stamp ∙ K.times.stamps;
      stamp_lt = λ i. rw (stamp_is i) (stamp_lt (bit set i) (entry s.stamp i) (K.times.stamp_lt i));
      rested_past = λ i h. rw (rested_is i, K.times.rested_past i h);
      stamp_past = λ i h. rw (stamp_is i, known i h) (K.times.stamp_past i h);
      young = λ i h e. rw (stamp_is i) (young i h (bit set i) (bit s.rested i) refl (sym (rested_is i) ∙ e));
      stamp_blank = λ i e. rw (stamp_is i) (blank (bit set i) (bit s.rested i) (entry s.stamp i) (K.times.stamp_blank i) (sym (rested_is i) ∙ e));
    };
    jobs = record {
      open_lt = or_lt 16 s.«open» set K.jobs.open_lt small;
      runs = K.jobs.runs;
      open_past = λ i h. rw (bit_of_or s.«open» set i, K.jobs.open_past i h, known i h);
      run_blank = λ i e. K.jobs.run_blank i (or_false (bit s.«open» i) (bit set i) (sym (bit_of_or s.«open» set i) ∙ e)).0;
    };
    queue = K.queue;
    last_below = K.last_below;
  }
