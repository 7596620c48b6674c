-- Step 1 in memory is step 1 of the rules: what closes, and the state after it. Assumes nothing.
use Rattle.std.proofs.Common.{◌≡◌, ℕ, zero, suc, ◌-◌, ◌^◌, ◌<◌, ◌≤◌, Bool, true, false, cond, not, ◌&&◌, eqb, leb, List, ◌∷◌, length, set, sym, refl, ◌∙◌, true≢false, lt_of_le_of_lt, arith, length-set, lt-ltb, eq-eqb}
use Rattle.std.proofs.Math.Bool.{or-false}
use Rattle.std.specs.Prelude.{Some}
use Rattle.std.specs.Bool.{then_some}
use Rattle.std.specs.Option.{option_map_or}
use mathlib.Core.Option.{some}
use lib.Bits.{bit_and, and_le_l}
use lib.Pow.{pow-lt}
use Rattle.rules.specs.Lists.{All}
use Rattle.rules.specs.Station.{Firm, Slot, Station, closed, firm_of, opened}
use Rattle.rules.specs.Tick.{Closed, How, bit, close, close_firm, close_last, close_row, closes_as, done, full_at, full_of, fully_run, shut, shut_at, spent, without}
use Rattle.rules.proofs.Facts.{FirstIs, HasRun, LastRan, TicketsTo}
use Rattle.rules.proofs.Image.{Image}
use Rattle.rules.proofs.Queue.{Other, others_not_full}
use Rattle.rules.proofs.Tickets.{behind, without_others}
use Rattle.rules.proofs.Walks.{Holds}
use Rattle.state.specs.declared.Last.{Last}
use Rattle.state.specs.declared.Last.TheVariants as ran
use Rattle.state.specs.declared.Rows.{Rows}
use Rattle.state.specs.declared.State.{State}
use Rattle.state.specs.Meaning.{Kept, LastBelow, Stored, entry, firm_at, firms_of, last_with, rows_from, slot_at, slots_of, station_of}
use Rattle.state.specs.Sets.{others}
use Rattle.state.proofs.Agrees.{Agrees}
use Rattle.state.proofs.Bits.{bit_one}
use Rattle.state.proofs.Positions.{any_rows, each_rows, first_row, holds_rows, shift_rows}
use Rattle.state.proofs.Widths.{image_of_lem}
use Rattle.answer.specs.declared.Closing.{Closing}
use Rattle.answer.specs.declared.Closing.TheVariants as closing
use Rattle.answer.specs.declared.Closing.TheVariants.{Nothing, Hard}
use Rattle.answer.specs.declared.How.TheVariants.{Done, Spent}
use Rattle.answer.specs.Answers.{closing_of}
use Rattle.dispatch.specs.Steps.{closed_by, closing_after, closing_in, popped, shut_row}
use Rattle.dispatch.proofs.Arrays.{bit_minus, set_at, shift_at}

-- a hard job closes

module _ (rows : Rows) (s : State) (K : Kept rows s) (i : ℕ) (h : i < 16) where
  one_lt : 2 ^ i < 2 ^ 16
  one_lt = pow-lt {j = 16} h

  bit_shut : (j : ℕ) → bit (bit_and s.«open» (others (2 ^ i))) j ≡ (bit s.«open» j && not (eqb j i))
  bit_shut j = bit_minus s.«open» (2 ^ i) K.jobs.open_lt one_lt j ∙ rw (bit_one i j)

  run_shut : (j : ℕ) → entry (set s.run i 0) j ≡ cond (eqb j i) 0 (entry s.run j)
  run_shut j = set_at s.run i 0 j (omega (arith, K.jobs.runs))

  job_shut : (o e : Bool) (r : ℕ) → cond (o && not e) (opened (cond e 0 r)) closed ≡ cond e closed (cond o (opened r) closed)
  job_shut true true r = refl
  job_shut true false r = refl
  job_shut false true r = refl
  job_shut false false r = refl

  shut_slot : (b : Bool) (x : Slot) → record { row = x.row; U = x.U; age = x.age; job = cond b closed x.job } ≡ cond b (shut x) x
  shut_slot true x = refl
  shut_slot false x = refl

  slot_shut : (j : ℕ) → slot_at rows (shut_row s i) j ≡ cond (eqb j i) (shut (slot_at rows s j)) (slot_at rows s j)
  slot_shut j = rw (lt-ltb i 16 h) (rw (bit_shut j, run_shut j, job_shut (bit s.«open» j) (eqb j i) (entry s.run j)) (shut_slot (eqb j i) (slot_at rows s j)))

  shut_slots : slots_of rows (shut_row s i) ≡ shut_at i (slots_of rows s)
  shut_slots = each_rows (λ k x. cond (eqb k i) (shut x) x) (slot_at rows s) (slot_at rows (shut_row s i)) 0 rows.table.n (λ j l. slot_shut j)

  open_off : (o e : Bool) → o ≡ false → (o && not e) ≡ false
  open_off o e q = rw q

  blank : (o e : Bool) (r : ℕ) → (o ≡ false → r ≡ 0) → (o && not e) ≡ false → cond e 0 r ≡ 0
  blank o true r k q = refl
  blank true false r k q = absurd (true≢false q)
  blank false false r k q = k refl

  shut_kept : Kept rows (shut_row s i)
  shut_kept = rw (lt-ltb i 16 h) (record {
    table = K.table;
    times = K.times;
    jobs = record {
      open_lt = lt_of_le_of_lt (and_le_l s.«open» (others (2 ^ i))) K.jobs.open_lt;
      runs = length-set s.run i 0 ∙ K.jobs.runs;
      open_past = λ j l. bit_shut j ∙ open_off (bit s.«open» j) (eqb j i) (K.jobs.open_past j l);
      run_blank = λ j e. rw (run_shut j) (blank (bit s.«open» j) (eqb j i) (entry s.run j) (K.jobs.run_blank j) (sym (bit_shut j) ∙ e));
    };
    queue = K.queue;
    last_below = K.last_below;
  })

-- the first firm job closes

module _ (rows : Rows) (s : State) (K : Kept rows s) where
  pop_firm : (j : ℕ) → firm_at (popped s) j ≡ firm_at s (suc j)
  pop_firm j = rw (shift_at s.ticket K.queue.tickets j, shift_at s.budget K.queue.budgets j, shift_at s.used K.queue.useds j)

  pop_kept : Kept rows (popped s)
  pop_kept = record {
    table = K.table;
    times = K.times;
    jobs = K.jobs;
    queue = record {
      few = omega (arith, K.queue.few);
      budgets = refl;
      useds = refl;
      tickets = refl;
      past = λ j l.
          rw (shift_at s.ticket K.queue.tickets j, shift_at s.budget K.queue.budgets j, shift_at s.used K.queue.useds j) (K.queue.past (suc j) (omega arith));
    };
    last_below = K.last_below;
  }

-- the queue of the rules, whose tickets are consecutive

pub first_others : (next : ℕ) (f : Firm) (fs : List Firm) → next < 2 ^ 32 → length (f ∷ fs) ≤ 8 → TicketsTo next (f ∷ fs) → All (Other f.ticket) fs
first_others next f fs l h (e, T) = behind f.ticket (suc (length fs)) next l h e fs (omega arith) T

full_first : (f : Firm) (fs : List Firm) → All (Other f.ticket) fs → full_of f.ticket (f ∷ fs) ≡ leb f.budget f.run
full_first f fs o = rw (eq-eqb f.ticket f.ticket refl, others_not_full f.ticket 1 fs o) (or-false (leb f.budget f.run))

without_first : (f : Firm) (fs : List Firm) → All (Other f.ticket) fs → without f.ticket (f ∷ fs) ≡ fs
without_first f fs o = rw (eq-eqb f.ticket f.ticket refl) (without_others f.ticket fs o)

-- all of it

-- the closing, the station after it and the arrays are what the rules say
abbrev pub Closes : Rows → State → Closing → Closed → Type 0
Closes rows s c x = (closing_of x.closing ≡ c) × Agrees rows (closed_by s c) x.station × Kept rows (closed_by s c)

module _ (rows : Rows) (s : State) (S : Stored rows s) where
  abbrev st : Station
  st = station_of rows s

  I : Image st
  I = image_of_lem rows s S

  as_is : Agrees rows s st
  unfolding station_of
  as_is = record { clock_is = refl; slots_is = refl; firms_is = refl; next_is = refl }

  -- a row

  shut_agrees : (i : ℕ) → i < 16 → (how : How) → Agrees rows (shut_row s i) (close_row st i (some how)).station
  unfolding station_of
  shut_agrees i h how =
      let e = shut_slots rows s S.kept i h in
      rw (lt-ltb i 16 h) (record { clock_is = refl; slots_is = rw (lt-ltb i 16 h) at e; firms_is = refl; next_is = refl })

  row_closes : (i : ℕ) → i < 16 → (d b : Bool) → Closes rows s (option_map_or (Hard i) (cond d (Some Done) (then_some b Spent)) Nothing) (close_row st i (closes_as d b))
  row_closes i h true b = (refl, shut_agrees i h done, shut_kept rows s S.kept i h)
  row_closes i h false true = (refl, shut_agrees i h spent, shut_kept rows s S.kept i h)
  row_closes i h false false = (refl, as_is, S.kept)

  open_job : (b : Bool) (r q : ℕ) → cond b (opened r) closed ≡ opened q → b ≡ true
  open_job true r q e = refl
  open_job false r q e = let z : ◌≡◌ {A = ℕ} 0 1 = cc in absurd (omega arith)

  row_full : (i : ℕ) → Holds HasRun i 0 (slots_of rows s) → full_at i (slots_of rows s) ≡ leb (entry rows.table.c i) (entry s.run i)
  row_full i H =
      let (l, (r, q)) = holds_rows HasRun (slot_at rows s) i 0 rows.table.n H in
      any_rows (λ x. fully_run x.row.C x.job) (slot_at rows s) i 0 rows.table.n (omega arith) l
      ∙ rw (open_job (bit s.«open» i) (entry s.run i) (suc r) q)

  -- the first firm job

  abbrev first : Firm
  first = firm_at s 0

  module _ (k : ℕ) (counted : s.count ≡ suc k) where
    queue_is : firms_of s ≡ first ∷ rows_from (firm_at s) 1 k
    queue_is = first_row (firm_at s) 0 s.count k counted

    others_are : All (Other first.ticket) (rows_from (firm_at s) 1 k)
    unfolding station_of
    others_are =
        let T = I.tickets in
        first_others s.next first (rows_from (firm_at s) 1 k) T.next_lt (rw queue_is at T.few) (rw queue_is at T.to_next)

    firm_full : full_of first.ticket (firms_of s) ≡ leb (entry s.budget 0) (entry s.used 0)
    firm_full = rw queue_is (full_first first (rows_from (firm_at s) 1 k) others_are)

    pop_agrees : (how : How) → Agrees rows (popped s) (close_firm st first.ticket (some how)).station
    unfolding station_of
    pop_agrees how = record {
      clock_is = refl;
      slots_is = refl;
      firms_is =
          let e : s.count - 1 ≡ k = omega arith in
          rw (e, queue_is, without_first first (rows_from (firm_at s) 1 k) others_are) (shift_rows (firm_at s) (firm_at (popped s)) 0 k (pop_firm rows s S.kept));
      next_is = refl;
    }

    firm_closes : (d b : Bool)
        → Closes rows s (option_map_or (closing.Firm first.ticket) (cond d (Some Done) (then_some b Spent)) Nothing) (close_firm st first.ticket (closes_as d b))
    firm_closes true b = (refl, pop_agrees done, pop_kept rows s S.kept)
    firm_closes false true = (refl, pop_agrees spent, pop_kept rows s S.kept)
    firm_closes false false = (refl, as_is, S.kept)

  queued : (k : ℕ) → s.count ≡ k → FirstIs (firm_of first.ticket) (firms_of s) → (m : ℕ) × (s.count ≡ suc m)
  unfolding rows_from
  queued zero e F = absurd (rw e at F)
  queued (suc m) e F = (m, e)

  pub close_refines : (d : Bool) → Closes rows s (closing_in rows s d) (close st d)
  unfolding station_of closing_after
  close_refines d = go s.last S.kept.last_below I.last_ran I.tickets.first
    where
      go : (l : Last) → LastBelow l → LastRan (last_with first.ticket l) (slots_of rows s) (firms_of s) → FirstIs (last_with first.ticket l) (firms_of s)
          → Closes rows s (closing_after rows s d l) (close_last st d (last_with first.ticket l))
      go (ran.Hard i) h r f = let below = lt-ltb i 16 h in rw (below, row_full i (rw below at r)) (row_closes i h d (leb (entry rows.table.c i) (entry s.run i)))
      go ran.Firm h r f =
          let (k, c) = queued s.count refl f in
          rw (firm_full k c) (firm_closes k c d (leb (entry s.budget 0) (entry s.used 0)))
      go ran.Nobody h r f = (refl, as_is, S.kept)
