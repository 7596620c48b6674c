-- The clock advances by one: every age by one, held at T, by stamps and rested marks. Assumes nothing.
use Rattle.std.proofs.Common.{◌≡◌, ℕ, suc, ◌+◌, ◌%◌, ◌^◌, ◌<◌, ◌≤◌, min, Bool, true, false, cond, ◌&&◌, ◌||◌, ltb, leb, sym, refl, ap, ◌∙◌, lt_of_le_of_lt, mod-lt, arith, le-ltb, lt-ltb, leb-false, leb-true}
use lib.Bits.{bit_and, and_le_l, or_lt}
use Rattle.rules.specs.Station.{Last, hold}
use Rattle.rules.specs.Tick.{bit, last_at, pass_rows, passed, ran_once}
use Rattle.rules.proofs.Bools.{and_no, and_yes, or_false}
use Rattle.table.specs.Memory.{table_row}
use Rattle.state.specs.declared.Rows.{Rows}
use Rattle.state.specs.declared.State.{State}
use Rattle.state.specs.Meaning.{Kept, age_at, entry, job_at, slot_at, slots_of, wrapped}
use Rattle.state.specs.Sets.{known}
use Rattle.state.proofs.Bits.{bit_of_and, bit_known, bit_of_or}
use Rattle.state.proofs.Positions.{each_rows}
use Rattle.dispatch.specs.Loops.{aged_at, marked, rows_that, upto}
use Rattle.dispatch.specs.Steps.{advanced, next_clock, rested_next}
use Rattle.dispatch.proofs.Arrays.{bit_that, length_upto, stamped_at}
use Rattle.dispatch.proofs.Loops.{that_lt}

-- one tick later the stamp is one tick longer ago, also where the clock rolls over
pub age_next : (clock stamp : ℕ) → clock < 2 ^ 32 → stamp < 2 ^ 32 → wrapped clock stamp + 1 < 2 ^ 32 → wrapped ((clock + 1) % 2 ^ 32) stamp ≡ wrapped clock stamp + 1
age_next clock stamp a b h = omega arith

-- the age by the rested mark and the stamp, both after the tick
age_held : (rested : Bool) (T now stamp w : ℕ) → (rested ≡ false → w < T) → (rested ≡ false → wrapped now stamp ≡ w + 1)
    → let ripe = rested || leb T (wrapped now stamp) in cond ripe T (wrapped now (cond ripe 0 stamp)) ≡ min (suc (cond rested T w)) T
age_held true T now stamp w young next = omega arith
age_held false T now stamp w young next = go (leb T (wrapped now stamp)) refl
  where
    go : (b : Bool) → leb T (wrapped now stamp) ≡ b → cond b T (wrapped now (cond b 0 stamp)) ≡ min (suc w) T
    go true e = omega (arith, leb-true T (wrapped now stamp) e, young refl, next refl)
    go false e = omega (arith, leb-false T (wrapped now stamp) e, young refl, next refl)

-- every T has 16 bits
module _ (rows : Rows) (s : State) (K : Kept rows s) (thin : (i : ℕ) → i < rows.table.n → entry rows.table.t i < 2 ^ 16) where
  abbrev ripe : ℕ → Bool
  ripe = aged_at rows.table.t s.stamp (next_clock s)

  bit_rested : (i : ℕ) → bit (rested_next rows s) i ≡ (bit s.rested i || (bit (rows_that ripe 16) i && ltb i rows.table.n))
  bit_rested i = bit_of_or s.rested (bit_and (rows_that ripe 16) (known rows.table.n)) i ∙ rw (bit_of_and (rows_that ripe 16) (known rows.table.n) i, bit_known rows.table.n i K.table.few)

  rested_in : (i : ℕ) → i < rows.table.n → bit (rested_next rows s) i ≡ (bit s.rested i || ripe i)
  rested_in i h = bit_rested i ∙ rw (lt-ltb i rows.table.n h, bit_that ripe 16 i (omega (arith, K.table.few)), and_yes (ripe i))

  rested_past : (i : ℕ) → rows.table.n ≤ i → bit (rested_next rows s) i ≡ false
  rested_past i h = bit_rested i ∙ rw (le-ltb i rows.table.n h, and_no (bit (rows_that ripe 16) i)) (rw (K.times.rested_past i h))

  rested_lt : rested_next rows s < 2 ^ 16
  rested_lt = or_lt 16 s.rested (bit_and (rows_that ripe 16) (known rows.table.n)) K.times.rested_lt (lt_of_le_of_lt (and_le_l (rows_that ripe 16) (known rows.table.n)) (that_lt ripe 16))

  stamp_is : (i : ℕ) → entry (upto (marked (rested_next rows s) 0) 16 s.stamp) i ≡ cond (bit (rested_next rows s) i) 0 (entry s.stamp i)
  stamp_is = stamped_at s.stamp (rested_next rows s) 0 K.times.stamps rested_lt

  next : (i : ℕ) → i < rows.table.n → bit s.rested i ≡ false → wrapped (next_clock s) (entry s.stamp i) ≡ wrapped s.clock (entry s.stamp i) + 1
  next i h e = age_next s.clock (entry s.stamp i) K.times.clock_lt (K.times.stamp_lt i) (omega (arith, K.times.young i h e, thin i h))

  age_is : (i : ℕ) → i < rows.table.n → age_at rows (advanced rows s) i ≡ min (suc (age_at rows s i)) (hold (table_row rows.table i))
  age_is i h =
      rw (stamp_is i, rested_in i h)
      (age_held (bit s.rested i) (entry rows.table.t i) (next_clock s) (entry s.stamp i) (wrapped s.clock (entry s.stamp i)) (K.times.young i h) (next i h))

  -- a tick passes: s is the state before the runner's tick is counted, this one after it
  pub pass_slots : (before : State) (l : Last) → ((j : ℕ) → (age_at rows s j ≡ age_at rows before j) × (job_at s j ≡ cond (last_at l j) (ran_once (job_at before j)) (job_at before j)))
      → slots_of rows (advanced rows s) ≡ pass_rows l (slots_of rows before)
  pass_slots before l same =
      each_rows (λ k x. passed (last_at l k) x) (slot_at rows before) (slot_at rows (advanced rows s)) 0 rows.table.n (λ j h.
      let a : age_at rows (advanced rows s) j ≡ min (suc (age_at rows before j)) (hold (table_row rows.table j)) = age_is j (omega arith) ∙ ap (λ x. min (suc x) (hold (table_row rows.table j))) (same j).0 in
      λ i. record { row = table_row rows.table j; U = entry rows.u j; age = a i; job = (same j).1 i })

  stamp_lt : (b : Bool) (x : ℕ) → x < 2 ^ 32 → cond b 0 x < 2 ^ 32
  stamp_lt true x h = omega arith
  stamp_lt false x h = h

  young : (r b : Bool) (T x : ℕ) → leb T (wrapped (next_clock s) x) ≡ b → (r || b) ≡ false → wrapped (next_clock s) (cond (r || b) 0 x) < T
  young r b T x q e = rw e (leb-false T (wrapped (next_clock s) x) (q ∙ (or_false r b e).1))

  pub advance_kept : Kept rows (advanced rows s)
  advance_kept = record {
    table = K.table;
    times = record {
      clock_lt = mod-lt (s.clock + 1) (omega arith);
      rested_lt = rested_lt;
      stamps = length_upto (marked (rested_next rows s) 0) 16 s.stamp ∙ K.times.stamps;
      stamp_lt = λ i. rw (stamp_is i) (stamp_lt (bit (rested_next rows s) i) (entry s.stamp i) (K.times.stamp_lt i));
      rested_past = rested_past;
      stamp_past = λ i h. rw (stamp_is i, rested_past i h) (K.times.stamp_past i h);
      young = λ i h e. rw (stamp_is i, rested_in i h) (young (bit s.rested i) (ripe i) (entry rows.table.t i) (entry s.stamp i) refl (sym (rested_in i h) ∙ e));
      stamp_blank = λ i e. rw (stamp_is i, e);
    };
    jobs = K.jobs;
    queue = K.queue;
    last_below = K.last_below;
  }
