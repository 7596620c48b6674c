-- Rows and a state that have an image pass the tests, and their numbers have the widths of the block. Assumes nothing.
use Rattle.std.proofs.Common.{◌≡◌, ℕ, zero, suc, ◌+◌, ◌-◌, ◌%◌, ◌^◌, ◌<◌, ◌≤◌, Bool, true, false, cond, not, ◌&&◌, ◌||◌, eqb, ltb, leb, List, sym, refl, ◌∙◌, true≢false, arith, ltb-false, ltb-true, le-ltb, lt-ltb, eq-eqb, ne_eqb, leb-true}
use mathlib.Core.Bool.{false≢true}
use lib.Bits.{bit_or}
use native.Mathlib.Decide.{dec_lt}
use Rattle.rules.specs.Image.{last_ok}
use Rattle.rules.specs.Station.{closed, firm_of, nobody, opened, row_at, Slot}
use Rattle.rules.specs.Tick.{bit, last_at, last_to}
use Rattle.rules.specs.Tables.{RanksOk}
use Rattle.rules.proofs.Bools.{and_true, true_and}
use Rattle.rules.proofs.Facts.{HasRun, LastRan, Live, Paid, Runs, closed_not_open}
use Rattle.rules.proofs.Faults.{table_fault_iff}
use Rattle.rules.proofs.ImageTests.{last_iff, opened_same}
use Rattle.rules.proofs.Image.{Image, TableOk}
use Rattle.state.specs.declared.Last.{Last}
use Rattle.state.specs.declared.Last.TheVariants as ran
use Rattle.state.specs.declared.Rows.{Rows}
use Rattle.state.specs.declared.State.{State}
use Rattle.table.specs.Memory.{table_row}
use Rattle.state.specs.Meaning.{Kept, LastBelow, age_at, entry, firm_at, firms_of, last_of, last_with, rows_from, slot_at, slots_of, station_of, wrapped}
use Rattle.state.proofs.Positions.{all_rows, holds_rows, map_rows}
use Rattle.state.proofs.Widths.{Widths, image_of_lem, row_good, runs_rows, widths}
use Rattle.block.specs.Layout.{last_number}
use Rattle.block.specs.Tests.{most_run}
use Rattle.block.specs.Image.{Imaged}
use Rattle.block.proofs.Bits.{known_in}
use Rattle.block.proofs.Meant.{last_is}
use Rattle.block.proofs.Numbers.{behind_next, from_runs, from_tickets, not_first, says_firm, says_hard, stamp_says}
use Rattle.block.proofs.Ors.{none_or}
use Rattle.block.proofs.RankSets.{once_set, rank_lt}
use Rattle.block.proofs.Tested.{Checked, last_test}
use Rattle.block.proofs.Trip.{Fit}

-- the conditions, entry by entry
module _ (rows : Rows) (s : State) (I : Imaged rows s) where
  K : Kept rows s
  K = I.stored.kept

  image : Image (station_of rows s)
  image = image_of_lem rows s I.stored

  table : TableOk (rows_from (table_row rows.table) 0 rows.table.n)
  unfolding station_of image
  table = rw (map_rows (λ x. x.row) (slot_at rows s) 0 rows.table.n) at image.table

  -- by the place of a row, of a firm job

  row_case : (P : ℕ → Type 0) (i : ℕ) → (i < rows.table.n → P i) → (rows.table.n ≤ i → P i) → P i
  row_case P i a b = go (dec_lt i rows.table.n)
    where
      go : Dec (i < rows.table.n) → P i
      go (yes l) = a l
      go (no m) = b (omega arith)

  firm_case : (P : ℕ → Type 0) (j : ℕ) → (j < s.count → P j) → (s.count ≤ j → P j) → P j
  firm_case P j a b = go (dec_lt j s.count)
    where
      go : Dec (j < s.count) → P j
      go (yes l) = a l
      go (no m) = b (omega arith)

  runs : (i : ℕ) → i < rows.table.n → Runs (last_at (last_of s) i) (slot_at rows s i)
  unfolding station_of image
  runs i h = runs_rows (last_at (last_of s)) (slot_at rows s) 0 rows.table.n image.runs i (omega arith) (omega arith)

  paid : (j : ℕ) → j < s.count → Paid (firm_at s j)
  unfolding station_of image
  paid j h = all_rows Paid (firm_at s) 0 s.count image.paid j (omega arith) (omega arith)

  live : (j : ℕ) → j < s.count → last_to (last_of s) (entry s.ticket j) ≡ false → entry s.used j < entry s.budget j
  unfolding station_of image
  live j h = all_rows (λ f. last_to (last_of s) f.ticket ≡ false → Live f) (firm_at s) 0 s.count image.firms j (omega arith) (omega arith)

  ticket_is : (j : ℕ) → j < s.count → entry s.ticket j ≡ (s.next + (2 ^ 32 - (s.count - j))) % 2 ^ 32
  unfolding station_of image
  ticket_is j h = let e : 0 + s.count - j ≡ s.count - j = omega arith in rw e at (from_tickets s.next (firm_at s) 0 s.count j image.tickets.to_next (omega arith) (omega arith))

  ranks_ok : RanksOk (rows_from (table_row rows.table) 0 rows.table.n)
  ranks_ok = ((table_fault_iff (rows_from (table_row rows.table) 0 rows.table.n)).0 table.no_fault).1

  -- a row in order, or none
  in_order : (i : ℕ) → (entry rows.table.c i ≤ entry rows.table.d i) × (entry rows.table.d i ≤ entry rows.table.t i) × (entry rows.u i + entry rows.table.c i + entry rows.table.m i ≤ entry rows.table.d i)
  in_order i = row_case (λ k. (entry rows.table.c k ≤ entry rows.table.d k) × (entry rows.table.d k ≤ entry rows.table.t k) × (entry rows.u k + entry rows.table.c k + entry rows.table.m k ≤ entry rows.table.d k)) i
      (λ l. let G = row_good rows s I.stored i l in (omega (arith, G.U_le), G.D_le, G.U_le))
      (λ g. omega (arith, K.table.past i g))

  run_le : (i : ℕ) → entry s.run i ≤ cond (bit s.«open» i) (most_run (eqb i (last_number s.last)) (entry rows.table.c i)) 0
  run_le i = row_case (λ k. entry s.run k ≤ cond (bit s.«open» k) (most_run (eqb k (last_number s.last)) (entry rows.table.c k)) 0) i inside
      (λ g. rw (K.jobs.open_past i g) (omega (arith, K.jobs.run_blank i (K.jobs.open_past i g))))
    where
      inside : i < rows.table.n → entry s.run i ≤ cond (bit s.«open» i) (most_run (eqb i (last_number s.last)) (entry rows.table.c i)) 0
      inside l =
          let few = K.table.few in
          from_runs (table_row rows.table i) (entry rows.u i) (age_at rows s i) (entry s.run i) (bit s.«open» i) (eqb i (last_number s.last)) (rw (last_is s i (omega arith)) at (runs i l)) (K.jobs.run_blank i)

  W : Widths rows s
  W = widths rows s I.stored

  pub fit : Fit rows s
  fit = record {
    n_lt = omega (arith, K.table.few);
    c_lt = λ i. (W.rows_lt i).0;
    d_lt = λ i. (W.rows_lt i).1;
    t_lt = λ i. (W.rows_lt i).2;
    u_lt = λ i. (W.rows_lt i).3;
    rank_lt = K.table.rank_lt;
    m_lt = λ i. (W.rows_lt i).4;
    clock_lt = K.times.clock_lt;
    next_lt = W.next_lt;
    open_lt = K.jobs.open_lt;
    rested_lt = K.times.rested_lt;
    last_below = K.last_below;
    count_lt = omega (arith, K.queue.few);
    run_lt = W.run_lt;
    stamp_lt = K.times.stamp_lt;
    budget_lt = λ j. (W.firms_lt j).1;
    used_lt = λ j. (W.firms_lt j).2;
    ticket_lt = λ j. (W.firms_lt j).0;
  }

  -- the tests

  there : (i : ℕ) → cond (ltb i rows.table.n) (1 - entry rows.table.c i) (bit_or (entry rows.table.t i) (entry rows.table.m i)) ≡ 0
  there i = row_case (λ k. cond (ltb k rows.table.n) (1 - entry rows.table.c k) (bit_or (entry rows.table.t k) (entry rows.table.m k)) ≡ 0) i
      (λ l. rw (lt-ltb i rows.table.n l) (omega (arith, (row_good rows s I.stored i l).C_pos)))
      (λ g. let Z = K.table.past i g in rw (le-ltb i rows.table.n g) (none_or (entry rows.table.t i) (entry rows.table.m i) Z.2 Z.5))

  -- quiet: rested, or not there
  quiet : (i : ℕ) → (bit s.rested i || not (ltb i rows.table.n)) ≡ true → entry s.stamp i ≡ 0
  quiet i = go (bit s.rested i) refl (ltb i rows.table.n) refl
    where
      go : (a : Bool) → bit s.rested i ≡ a → (x : Bool) → ltb i rows.table.n ≡ x → (a || not x) ≡ true → entry s.stamp i ≡ 0
      go true e x q h = K.times.stamp_blank i e
      go false e true q h = absurd (false≢true h)
      go false e false q h = K.times.stamp_past i (ltb-false i rows.table.n q)

  young : (i : ℕ) → (bit s.rested i || not (ltb i rows.table.n)) ≡ false → wrapped s.clock (entry s.stamp i) < entry rows.table.t i
  young i = go (bit s.rested i) refl (ltb i rows.table.n) refl
    where
      go : (a : Bool) → bit s.rested i ≡ a → (x : Bool) → ltb i rows.table.n ≡ x → (a || not x) ≡ false → wrapped s.clock (entry s.stamp i) < entry rows.table.t i
      go true e x q h = absurd (true≢false h)
      go false e true q h = K.times.young i (ltb-true i rows.table.n q) e
      go false e false q h = absurd (true≢false h)

  -- only the first job can be the last runner
  not_last : (j : ℕ) → j < s.count → (eqb j 0 && eqb 16 (last_number s.last)) ≡ false → last_to (last_of s) (entry s.ticket j) ≡ false
  not_last j h = go s.last
    where
      first : entry s.ticket j ≡ entry s.ticket 0 → j ≡ 0
      first t = not_first s.next s.count j W.next_lt h K.queue.few (sym (ticket_is j h) ∙ t ∙ ticket_is 0 (omega arith))

      go : (l : Last) → (eqb j 0 && eqb 16 (last_number l)) ≡ false → last_to (last_with (entry s.ticket 0) l) (entry s.ticket j) ≡ false
      go (ran.Hard i) e = row (ltb i 16)
        where
          row : (b : Bool) → last_to (cond b (row_at i) nobody) (entry s.ticket j) ≡ false
          row true = refl
          row false = refl
      go ran.Firm e = ne_eqb (entry s.ticket j) (entry s.ticket 0) (λ t. true≢false (sym (true_and (eq-eqb j 0 (first t)) refl) ∙ e))
      go ran.Nobody e = refl

  firm_runs : (j : ℕ) → entry s.used j ≤ most_run (eqb j 0 && eqb 16 (last_number s.last)) (entry s.budget j)
  firm_runs j = firm_case (λ k. entry s.used k ≤ most_run (eqb k 0 && eqb 16 (last_number s.last)) (entry s.budget k)) j
      (λ l. go (eqb j 0 && eqb 16 (last_number s.last)) (not_last j l) l)
      (λ g. omega (arith, (K.queue.past j g).2))
    where
      go : (b : Bool) → (b ≡ false → last_to (last_of s) (entry s.ticket j) ≡ false) → j < s.count → entry s.used j ≤ most_run b (entry s.budget j)
      go true n l = omega (arith, (paid j l).1)
      go false n l = omega (arith, live j l (n refl))

  firm_there : (j : ℕ) → cond (ltb j s.count) (1 - entry s.budget j) (entry s.budget j) ≡ 0
  firm_there j = firm_case (λ k. cond (ltb k s.count) (1 - entry s.budget k) (entry s.budget k) ≡ 0) j
      (λ l. rw (lt-ltb j s.count l) (omega (arith, (paid j l).0)))
      (λ g. rw (le-ltb j s.count g) (K.queue.past j g).1)

  ticket_due : (j : ℕ) → entry s.ticket j ≡ cond (ltb j s.count) ((wrapped s.next s.count + j) % 2 ^ 32) 0
  ticket_due j = firm_case (λ k. entry s.ticket k ≡ cond (ltb k s.count) ((wrapped s.next s.count + k) % 2 ^ 32) 0) j
      (λ l. rw (lt-ltb j s.count l) (ticket_is j l ∙ sym (behind_next s.next s.count j W.next_lt l K.queue.few)))
      (λ g. rw (le-ltb j s.count g) (K.queue.past j g).0)

  -- the last runner

  row_ran : (i : ℕ) → HasRun (slot_at rows s i) → (bit s.«open» i && ltb 0 (entry s.run i)) ≡ true
  row_ran i (r, e) = go (bit s.«open» i) e
    where
      go : (o : Bool) → cond o (opened (entry s.run i)) closed ≡ opened (suc r) → (o && ltb 0 (entry s.run i)) ≡ true
      go true e = lt-ltb 0 (entry s.run i) (omega (arith, opened_same e))
      go false e = absurd (closed_not_open e)

  firm_ran : (ss : List Slot) (k : ℕ) → last_ok (firm_of (entry s.ticket 0)) ss (rows_from (firm_at s) 0 k) ≡ true → (ltb 0 k && ltb 0 (entry s.used 0)) ≡ true
  unfolding rows_from
  firm_ran ss zero e = absurd (false≢true e)
  firm_ran ss (suc k) e =
      true_and (lt-ltb 0 (suc k) (omega arith)) (lt-ltb 0 (entry s.used 0) (leb-true 1 (entry s.used 0) (and_true (eqb (entry s.ticket 0) (entry s.ticket 0)) (leb 1 (entry s.used 0)) e).1))

  last_passes : last_test s s.last ≡ true
  unfolding station_of image
  last_passes =
      let T = image.tickets in
      go s.last K.last_below image.last_ran ((last_iff s.next (last_of s) (slots_of rows s) (firms_of s) W.next_lt T.few T.to_next).1 (image.last_ran, T.first))
    where
      go : (l : Last) → LastBelow l → LastRan (last_with (entry s.ticket 0) l) (slots_of rows s) (firms_of s) → last_ok (last_with (entry s.ticket 0) l) (slots_of rows s) (firms_of s) ≡ true
          → last_test s l ≡ true
      go (ran.Hard i) b h e = row_ran i (holds_rows HasRun (slot_at rows s) i 0 rows.table.n (rw (lt-ltb i 16 b) at h)).1
      go ran.Firm b h e = firm_ran (slots_of rows s) s.count e
      go ran.Nobody b h e = refl

  pub passes : Checked rows s
  passes = record {
    few = K.table.few;
    firms_few = K.queue.few;
    row = λ i h. says_hard (ltb i rows.table.n) (bit s.«open» i) (eqb i (last_number s.last)) (entry rows.table.c i) (entry rows.table.d i) (entry rows.table.t i) (entry rows.u i) (entry rows.table.m i) (entry s.run i)
        (record { C_le = (in_order i).0; D_le = (in_order i).1; U_le = (in_order i).2; there = there i; runs = run_le i });
    stamp = λ i h. stamp_says (bit s.rested i || not (ltb i rows.table.n)) (entry rows.table.t i) s.clock (entry s.stamp i) (quiet i) (young i);
    firm = λ j h. says_firm (ltb j s.count) (eqb j 0 && eqb 16 (last_number s.last)) (entry s.budget j) (entry s.used j) (record { there = firm_there j; runs = firm_runs j });
    ticket = λ j h. ticket_due j;
    ranks = once_set (table_row rows.table) rows.table.n K.table.few ranks_ok;
    rank_low = λ i h. row_case (λ k. entry rows.table.rank k < 32) i (λ l. omega (arith, rank_lt (table_row rows.table) rows.table.n K.table.few ranks_ok i l, K.table.few)) (λ g. omega (arith, (K.table.past i g).4));
    rank_past = λ i h g. (K.table.past i g).4;
    open_le = known_in rows.table.n s.«open» K.table.few K.jobs.open_lt K.jobs.open_past;
    rested_le = known_in rows.table.n s.rested K.table.few K.times.rested_lt K.times.rested_past;
    last_ok_lem = last_passes;
  }
