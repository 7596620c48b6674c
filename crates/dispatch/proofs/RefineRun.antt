-- Step 4 in memory is step 4 of the rules: the runner's tick is counted, and the clock advances. Assumes nothing.
use Rattle.std.proofs.Common.{◌≡◌, ℕ, zero, suc, ◌+◌, ◌%◌, ◌^◌, ◌<◌, ◌≤◌, Bool, true, false, cond, eqb, List, [], ◌∷◌, map, set, sym, refl, ap, ◌∙◌, ap₂, true≢false, add-one, arith, length-set, lt-ltb, eq-eqb, ne_eqb, eqb-true}
use Rattle.rules.specs.Lists.{All}
use Rattle.rules.specs.Station.{Firm, Last, Station, closed, firm_of, is_open, nobody, opened, row_at}
use Rattle.rules.specs.Tick.{Runner, bit, choose, firm, hard, idle, lower, pass_firms, passed_firm, ran_once, run, upper}
use Rattle.rules.specs.Tick as rules
use Rattle.rules.proofs.Choose.{IsOpen, best_open, found_open, on_choose}
use Rattle.rules.proofs.Queue.{Other}
use Rattle.rules.proofs.Walks.{Holds}
use Rattle.state.specs.declared.Last.TheVariants.{Hard}
use Rattle.state.specs.declared.Rows.{Rows}
use Rattle.state.specs.declared.State.{State}
use Rattle.state.specs.Meaning.{Kept, entry, firm_at, firms_of, job_at, rows_from, slot_at, slots_of, station_of}
use Rattle.state.proofs.Agrees.{station_is}
use Rattle.state.proofs.Positions.{first_row, holds_rows, same_rows}
use Rattle.answer.specs.Answers.{runner_of}
use Rattle.dispatch.specs.Steps.{advanced, bumped, ran_first, ran_in, ran_none, ran_row, reworked}
use Rattle.dispatch.proofs.Arrays.{set_at}
use Rattle.dispatch.proofs.RefineAdvance.{advance_kept, pass_slots}

bumped_is : (x : ℕ) → x < 65535 → bumped x ≡ suc x
bumped_is x h = rw (lt-ltb x 65535 h) (add-one x)

-- the queue after a tick of somebody else

map_same : (h : Firm → Firm) (fs : List Firm) → ((f : Firm) → h f ≡ f) → map h fs ≡ fs
map_same h [] e = refl
map_same h (f ∷ fs) e = ap₂ (λ x xs. x ∷ xs) (e f) (map_same h fs e)

pass_others : (t : ℕ) (fs : List Firm) → All (Other t) fs → pass_firms (firm_of t) fs ≡ fs
pass_others t [] o = refl
pass_others t (f ∷ fs) (o, os) = rw (ne_eqb f.ticket t o) (ap (λ l. f ∷ l) (pass_others t fs os))

module _ (rows : Rows) (s : State) (K : Kept rows s) (thin : (i : ℕ) → i < rows.table.n → entry rows.table.t i < 2 ^ 16)
    (unspent : (i : ℕ) → i < rows.table.n → bit s.«open» i ≡ true → entry s.run i < 65535)
    (queue : (k : ℕ) → s.count ≡ suc k → (entry s.used 0 < 65535) × All (Other (entry s.ticket 0)) (rows_from (firm_at s) 1 k)) where
  -- c: the station that the rules' steps 1 and 2 leave, but for its slots; r runs for one tick
  abbrev Runs : Station → Runner → Type 0
  Runs c r = (station_of rows (advanced rows (ran_in s (runner_of r))) ≡ run c (slots_of rows s) r) × Kept rows (advanced rows (ran_in s (runner_of r)))

  module _ (c : Station) (clock_is : s.clock ≡ c.clock) (firms_is : firms_of s ≡ c.firms) (next_is : s.next ≡ c.next) where
    clock_next : (s.clock + 1) % 2 ^ 32 ≡ suc c.clock % 2 ^ 32
    clock_next = rw (add-one, clock_is)

    -- nobody of the queue runs
    queue_waits : (l : Last) → ((u : ℕ) → rules.last_to l u ≡ false) → firms_of s ≡ pass_firms l c.firms
    queue_waits l no_one = firms_is ∙ sym (map_same (λ f. passed_firm (rules.last_to l f.ticket) f) c.firms (λ f. rw (no_one f.ticket)))

    -- a row runs

    module _ (i : ℕ) (known : i < rows.table.n) (still_open : bit s.«open» i ≡ true) where
      abbrev after : State
      after = reworked s s.«open» (Hard i) (set s.run i (bumped (entry s.run i))) s.count s.budget s.used s.ticket

      low : i < 16
      low = omega (arith, K.table.few)

      after_is : ran_row s i ≡ after
      after_is = rw (lt-ltb i 16 low)

      run_is : (j : ℕ) → entry after.run j ≡ cond (eqb j i) (suc (entry s.run i)) (entry s.run j)
      run_is j = set_at s.run i (bumped (entry s.run i)) j (omega (arith, K.jobs.runs, low)) ∙ rw (bumped_is (entry s.run i) (unspent i known still_open))

      job_is : (j : ℕ) → job_at after j ≡ cond (eqb j i) (ran_once (job_at s j)) (job_at s j)
      job_is j = rw (run_is j) (go (eqb j i) refl)
        where
          go : (b : Bool) → eqb j i ≡ b
              → cond (bit s.«open» j) (opened (cond b (suc (entry s.run i)) (entry s.run j))) closed ≡ cond b (ran_once (job_at s j)) (job_at s j)
          go true e = let q : j ≡ i = eqb-true j i e in rw (q, still_open)
          go false e = refl

      closed_blank : (j : ℕ) → bit s.«open» j ≡ false → entry after.run j ≡ 0
      closed_blank j e = run_is j ∙ rw (ne_eqb j i (λ q. true≢false (sym still_open ∙ sym (ap (bit s.«open») q) ∙ e))) (K.jobs.run_blank j e)

      after_kept : Kept rows after
      after_kept = record {
        table = K.table;
        times = K.times;
        jobs = record {
          open_lt = K.jobs.open_lt;
          runs = length-set s.run i (bumped (entry s.run i)) ∙ K.jobs.runs;
          open_past = K.jobs.open_past;
          run_blank = closed_blank;
        };
        queue = K.queue;
        last_below = low;
      }

      row_runs : (band : rules.Band) → Runs c (hard i band)
      row_runs band = rw after_is (
        station_is rows (advanced rows after) (suc c.clock % 2 ^ 32) (rules.pass_rows (row_at i) (slots_of rows s)) (pass_firms (row_at i) c.firms) c.next (row_at i)
            clock_next (pass_slots rows after after_kept thin s (row_at i) (λ j. (refl, job_is j))) (queue_waits (row_at i) (λ u. refl)) next_is (rw (lt-ltb i 16 low) refl),
        advance_kept rows after after_kept thin,
      )

    -- nobody runs

    none_kept : Kept rows (ran_none s)
    none_kept = record { table = K.table; times = K.times; jobs = K.jobs; queue = K.queue; last_below = tt }

    none_runs : (station_of rows (advanced rows (ran_none s)) ≡ run c (slots_of rows s) idle) × Kept rows (advanced rows (ran_none s))
    none_runs = (
      station_is rows (advanced rows (ran_none s)) (suc c.clock % 2 ^ 32) (rules.pass_rows nobody (slots_of rows s)) (pass_firms nobody c.firms) c.next nobody
          clock_next (pass_slots rows (ran_none s) none_kept thin s nobody (λ j. (refl, refl))) (queue_waits nobody (λ u. refl)) next_is refl,
      advance_kept rows (ran_none s) none_kept thin,
    )

    -- the first firm job runs

    module _ (k : ℕ) (counted : s.count ≡ suc k) where
      abbrev t : ℕ
      t = entry s.ticket 0

      used_is : (j : ℕ) → entry (ran_first s).used j ≡ cond (eqb j 0) (suc (entry s.used 0)) (entry s.used j)
      used_is j = set_at s.used 0 (bumped (entry s.used 0)) j (omega (arith, K.queue.useds)) ∙ rw (bumped_is (entry s.used 0) (queue k counted).0)

      behind_first : (j : ℕ) → 1 ≤ j → entry (ran_first s).used j ≡ entry s.used j
      behind_first j h = used_is j ∙ rw (ne_eqb j 0 (λ e. omega arith))

      first_kept : Kept rows (ran_first s)
      first_kept = record {
        table = K.table;
        times = K.times;
        jobs = K.jobs;
        queue = record {
          few = K.queue.few;
          budgets = K.queue.budgets;
          useds = length-set s.used 0 (bumped (entry s.used 0)) ∙ K.queue.useds;
          tickets = K.queue.tickets;
          past = λ j h. let z = K.queue.past j h in (z.0, z.1, behind_first j (omega arith) ∙ z.2);
        };
        last_below = tt;
      }

      queue_is : firms_of s ≡ firm_at s 0 ∷ rows_from (firm_at s) 1 k
      queue_is = first_row (firm_at s) 0 s.count k counted

      queue_runs : firms_of (ran_first s) ≡ pass_firms (firm_of t) c.firms
      unfolding rows_from
      queue_runs =
          rw (sym firms_is, queue_is, counted)
          (ap₂ (λ x xs. x ∷ xs) (first_ran)
          (same_rows (firm_at s) (firm_at (ran_first s)) 1 k (λ j h l. rw (behind_first j h)) ∙ sym (pass_others t (rows_from (firm_at s) 1 k) (queue k counted).1)))
        where
          first_ran : firm_at (ran_first s) 0 ≡ passed_firm (eqb t t) (firm_at s 0)
          first_ran = rw (used_is 0, eq-eqb t t refl)

      first_runs : Runs c (firm t)
      first_runs = (
        station_is rows (advanced rows (ran_first s)) (suc c.clock % 2 ^ 32) (rules.pass_rows (firm_of t) (slots_of rows s)) (pass_firms (firm_of t) c.firms) c.next (firm_of t)
            clock_next (pass_slots rows (ran_first s) first_kept thin s (firm_of t) (λ j. (refl, refl))) queue_runs next_is refl,
        advance_kept rows (ran_first s) first_kept thin,
      )

    -- all of it

    row_open : (i : ℕ) → Holds IsOpen i 0 (slots_of rows s) → (i < rows.table.n) × (bit s.«open» i ≡ true)
    row_open i H = let (h, o) = holds_rows IsOpen (slot_at rows s) i 0 rows.table.n H in (omega arith, go (bit s.«open» i) o)
      where
        go : (b : Bool) → is_open (cond b (opened (entry s.run i)) closed) ≡ true → b ≡ true
        go true e = refl
        go false e = e

    row_case : (i : ℕ) (band : rules.Band) → Holds IsOpen i 0 (slots_of rows s) → Runs c (hard i band)
    row_case i band H = let (known, still_open) = row_open i H in row_runs i known still_open band

    firm_case : (k : ℕ) → s.count ≡ k → (f : Firm) (more : List Firm) → rows_from (firm_at s) 0 k ≡ f ∷ more → Runs c (firm f.ticket)
    unfolding rows_from
    firm_case zero e f more q = let z : ◌≡◌ {A = ℕ} 0 1 = cc in absurd (omega arith)
    firm_case (suc k) e f more q = let same : firm_at s 0 ≡ f = cc in rw (sym same) (first_runs k e)

    pub run_refines : (wants : Bool) → Runs c (choose (slots_of rows s) (firms_of s) wants)
    run_refines wants = on_choose (Runs c) (slots_of rows s) (firms_of s) wants
        (λ i e. row_case i upper (found_open i 0 (slots_of rows s) e))
        (λ e f more q. firm_case s.count refl f more q)
        (λ e q. none_runs)
        (λ e q best l. row_case best.0 lower (best_open best (slots_of rows s) l))
        (λ e q. none_runs)
