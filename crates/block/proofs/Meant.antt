-- Rows and a state that pass the tests have an image: they meet document 01's conditions, and what means nothing is 0. Assumes nothing.
use Rattle.std.proofs.Common.{◌≡◌, ℕ, zero, suc, ◌+◌, ◌-◌, ◌%◌, ◌^◌, ◌<◌, ◌≤◌, Bool, true, false, cond, not, ◌&&◌, ◌||◌, eqb, ltb, sym, refl, ◌∙◌, inl, true≢false, le_refl, arith, ltb-true, le-ltb, lt-ltb, eq-eqb, ne_eqb, eqb-true, ltb-false}
use native.Mathlib.Decide.{dec_lt}
use Rattle.rules.specs.Station.{firm_of, nobody, row_at, rows_of}
use Rattle.rules.specs.Tables.{RowOk}
use Rattle.rules.specs.Tick.{bit, last_at, last_to}
use Rattle.rules.proofs.Bools.{and_true}
use Rattle.rules.proofs.Facts.{FirmRan, FirstIs, Good, HasRun, LastRan, Live, Runs}
use Rattle.rules.proofs.Faults.{table_fault_iff}
use Rattle.rules.proofs.ImageIs
use Rattle.rules.proofs.Image.{Image}
use Rattle.state.specs.declared.Last.{Last}
use Rattle.state.specs.declared.Last.TheVariants as ran
use Rattle.state.specs.declared.Rows.{Rows}
use Rattle.state.specs.declared.State.{State}
use Rattle.table.specs.Memory.{table_row}
use Rattle.state.specs.Meaning.{Kept, LastBelow, age_at, entry, firm_at, firms_of, last_of, last_with, rows_from, slot_at, slots_of, station_of, wrapped}
use Rattle.state.proofs.Bools.{or_yes}
use Rattle.state.proofs.Positions.{length_rows, map_rows, rows_all}
use Rattle.block.specs.Layout.{Long, last_number}
use Rattle.block.specs.Tests.{most_run}
use Rattle.block.specs.Image.{Imaged}
use Rattle.block.proofs.Bits.{in_known}
use Rattle.block.proofs.Entered.{entry_out, rows_hold, rows_run}
use Rattle.block.proofs.Numbers.{FirmSays, HardSays, behind_next, firm_says, hard_says, stamp_quiet, stamp_young, to_runs, to_tickets}
use Rattle.block.proofs.Ors.{or_none}
use Rattle.block.proofs.RankSets.{set_once}
use Rattle.block.proofs.Tested.{Checked, last_test}
use Rattle.block.proofs.Trip.{Fit}

-- the last runner among the rows
pub last_is : (s : State) (i : ℕ) → i < 16 → last_at (last_of s) i ≡ eqb i (last_number s.last)
last_is s i h = go s.last
  where
    go : (l : Last) → last_at (last_with (entry s.ticket 0) l) i ≡ eqb i (last_number l)
    go (ran.Hard k) = row (ltb k 16) refl
      where
        row : (b : Bool) → ltb k 16 ≡ b → last_at (cond b (row_at k) nobody) i ≡ eqb i k
        row true e = refl
        row false e = sym (ne_eqb i k (λ q. omega (arith, ltb-false k 16 e)))
    go ran.Firm = sym (ne_eqb i 16 (λ q. omega arith))
    go ran.Nobody = sym (ne_eqb i 17 (λ q. omega arith))

-- within an array, or past it
by_place : (P : Type 0) (i size : ℕ) → (i < size → P) → (size ≤ i → P) → P
by_place P i size a b = go (dec_lt i size)
  where
    go : Dec (i < size) → P
    go (yes l) = a l
    go (no n) = b (omega arith)

module _ (rows : Rows) (s : State) (L : Long rows s) (F : Fit rows s) (C : Checked rows s) where
  -- a row

  says : (i : ℕ) → i < 16 → HardSays (ltb i rows.table.n) (bit s.«open» i) (eqb i (last_number s.last)) (entry rows.table.c i) (entry rows.table.d i) (entry rows.table.t i) (entry rows.u i) (entry rows.table.m i) (entry s.run i)
  says i h = hard_says (ltb i rows.table.n) (bit s.«open» i) (eqb i (last_number s.last)) (entry rows.table.c i) (entry rows.table.d i) (entry rows.table.t i) (entry rows.u i) (entry rows.table.m i) (entry s.run i) (C.row i h)

  C_pos : (i : ℕ) → i < rows.table.n → 1 ≤ entry rows.table.c i
  C_pos i h =
      let few = C.few in
      let e : 1 - entry rows.table.c i ≡ 0 = rw (lt-ltb i rows.table.n h) at (says i (omega arith)).there in
      omega arith

  -- no row stands there
  abbrev Blank : ℕ → Type 0
  Blank i = (entry rows.table.c i ≡ 0) × (entry rows.table.d i ≡ 0) × (entry rows.table.t i ≡ 0) × (entry rows.u i ≡ 0) × (entry rows.table.rank i ≡ 0) × (entry rows.table.m i ≡ 0)

  row_past : (i : ℕ) → rows.table.n ≤ i → Blank i
  row_past i h = by_place (Blank i) i 16 inside outside
    where
      inside : i < 16 → Blank i
      inside l =
          let R = says i l in
          let (T_zero, M_zero) = or_none (entry rows.table.t i) (entry rows.table.m i) (rw (le-ltb i rows.table.n h) at R.there) in
          (omega (arith, R.C_le, R.D_le), omega (arith, R.D_le), T_zero, omega (arith, R.U_le, R.D_le), C.rank_past i l h, M_zero)

      outside : 16 ≤ i → Blank i
      outside g = (entry_out rows.table.c 16 i L.c_long g, entry_out rows.table.d 16 i L.d_long g, entry_out rows.table.t 16 i L.t_long g, entry_out rows.u 16 i L.u_long g, entry_out rows.table.rank 16 i L.rank_long g, entry_out rows.table.m 16 i L.m_long g)

  open_in : (i : ℕ) → rows.table.n ≤ i → bit s.«open» i ≡ false
  open_in i h = in_known rows.table.n s.«open» i C.few C.open_le h

  rested_in : (i : ℕ) → rows.table.n ≤ i → bit s.rested i ≡ false
  rested_in i h = in_known rows.table.n s.rested i C.few C.rested_le h

  -- a stamp

  young : (i : ℕ) → i < rows.table.n → bit s.rested i ≡ false → wrapped s.clock (entry s.stamp i) < entry rows.table.t i
  young i h r =
      let few = C.few in
      stamp_young (bit s.rested i || not (ltb i rows.table.n)) (entry rows.table.t i) s.clock (entry s.stamp i) (rw (r, lt-ltb i rows.table.n h)) (C.stamp i (omega arith))

  stamp_zero : (i : ℕ) → (bit s.rested i || not (ltb i rows.table.n)) ≡ true → entry s.stamp i ≡ 0
  stamp_zero i e = by_place (entry s.stamp i ≡ 0) i 16
      (λ l. stamp_quiet (bit s.rested i || not (ltb i rows.table.n)) (entry rows.table.t i) s.clock (entry s.stamp i) e (C.stamp i l))
      (λ g. entry_out s.stamp 16 i L.stamp_long g)

  -- a firm job

  firm : (j : ℕ) → j < 8 → FirmSays (ltb j s.count) (eqb j 0 && eqb 16 (last_number s.last)) (entry s.budget j) (entry s.used j)
  firm j h = firm_says (ltb j s.count) (eqb j 0 && eqb 16 (last_number s.last)) (entry s.budget j) (entry s.used j) (C.firm j h)

  firm_past : (j : ℕ) → s.count ≤ j → (entry s.ticket j ≡ 0) × (entry s.budget j ≡ 0) × (entry s.used j ≡ 0)
  firm_past j h = by_place ((entry s.ticket j ≡ 0) × (entry s.budget j ≡ 0) × (entry s.used j ≡ 0)) j 8 inside
      (λ g. (entry_out s.ticket 8 j L.ticket_long g, entry_out s.budget 8 j L.budget_long g, entry_out s.used 8 j L.used_long g))
    where
      inside : j < 8 → (entry s.ticket j ≡ 0) × (entry s.budget j ≡ 0) × (entry s.used j ≡ 0)
      inside l =
          let t : entry s.ticket j ≡ 0 = rw (le-ltb j s.count h) at (C.ticket j l) in
          let b : entry s.budget j ≡ 0 = rw (le-ltb j s.count h) at (firm j l).there in
          (t, b, omega (arith, (firm j l).runs))

  run_zero : (i : ℕ) → bit s.«open» i ≡ false → entry s.run i ≡ 0
  run_zero i e = by_place (entry s.run i ≡ 0) i 16
      (λ l. let z : entry s.run i ≤ 0 = rw e at (says i l).runs in omega arith)
      (λ g. entry_out s.run 16 i L.run_long g)

  kept : Kept rows s
  kept = record {
    table = record { few = C.few; rank_lt = F.rank_lt; past = row_past };
    times = record {
      clock_lt = F.clock_lt;
      rested_lt = F.rested_lt;
      stamps = L.stamp_long;
      stamp_lt = F.stamp_lt;
      rested_past = rested_in;
      stamp_past = λ i h. stamp_zero i (rw (le-ltb i rows.table.n h) (or_yes (bit s.rested i)));
      young = young;
      stamp_blank = λ i e. stamp_zero i (rw e);
    };
    jobs = record { open_lt = F.open_lt; runs = L.run_long; open_past = open_in; run_blank = run_zero };
    queue = record { few = C.firms_few; budgets = L.budget_long; useds = L.used_long; tickets = L.ticket_long; past = firm_past };
    last_below = F.last_below;
  }

  -- the conditions

  good : (i : ℕ) → i < rows.table.n → Good (slot_at rows s i)
  good i h =
      let few = C.few in
      let R = says i (omega arith) in
      record { C_pos = C_pos i h; U_le = R.U_le; D_le = R.D_le; age_le = age_low (bit s.rested i) refl }
    where
      age_low : (b : Bool) → bit s.rested i ≡ b → cond b (entry rows.table.t i) (wrapped s.clock (entry s.stamp i)) ≤ entry rows.table.t i
      age_low true e = le_refl (entry rows.table.t i)
      age_low false e = omega (arith, young i h e)

  row_ok : (i : ℕ) → i < rows.table.n → RowOk (table_row rows.table i)
  row_ok i h = let few = C.few in let R = says i (omega arith) in record { C_pos = C_pos i h; C_le = R.C_le; D_le = R.D_le }

  runs : (i : ℕ) → i < rows.table.n → Runs (last_at (last_of s) i) (slot_at rows s i)
  runs i h =
      let few = C.few in
      rw (last_is s i (omega arith)) (to_runs (table_row rows.table i) (entry rows.u i) (age_at rows s i) (entry s.run i) (bit s.«open» i) (eqb i (last_number s.last)) (C_pos i h) (says i (omega arith)).runs)

  paid : (j : ℕ) → j < s.count → (1 ≤ entry s.budget j) × (entry s.used j ≤ entry s.budget j) × (entry s.budget j < 2 ^ 16)
  paid j h =
      let few = C.firms_few in
      let S = firm j (omega arith) in
      let e : 1 - entry s.budget j ≡ 0 = rw (lt-ltb j s.count h) at S.there in
      (omega arith, less (eqb j 0 && eqb 16 (last_number s.last)) S.runs, F.budget_lt j)
    where
      less : (b : Bool) → entry s.used j ≤ most_run b (entry s.budget j) → entry s.used j ≤ entry s.budget j
      less true l = omega arith
      less false l = omega arith

  -- only the first job can be the last runner
  live : (j : ℕ) → j < s.count → last_to (last_of s) (entry s.ticket j) ≡ false → entry s.used j < entry s.budget j
  live j h e = let few = C.firms_few in go (eqb j 0) refl (eqb 16 (last_number s.last)) refl (firm j (omega arith)).runs
    where
      first : (l : Last) → LastBelow l → j ≡ 0 → 16 ≡ last_number l → last_to (last_with (entry s.ticket 0) l) (entry s.ticket j) ≡ true
      first (ran.Hard i) b p q = absurd (omega arith)
      first ran.Firm b p q = rw p (eq-eqb (entry s.ticket 0) (entry s.ticket 0) refl)
      first ran.Nobody b p q = absurd (omega arith)

      go : (a : Bool) → eqb j 0 ≡ a → (b : Bool) → eqb 16 (last_number s.last) ≡ b → entry s.used j ≤ most_run (a && b) (entry s.budget j) → entry s.used j < entry s.budget j
      go true p true q l = absurd (true≢false (sym (first s.last F.last_below (eqb-true j 0 p) (eqb-true 16 (last_number s.last) q)) ∙ e))
      go true p false q l = omega (arith, (paid j h).0)
      go false p b q l = omega (arith, (paid j h).0)

  ticket_is : (j : ℕ) → j < s.count → entry s.ticket j ≡ (s.next + (2 ^ 32 - (s.count - j))) % 2 ^ 32
  ticket_is j h =
      let few = C.firms_few in
      let e : entry s.ticket j ≡ (wrapped s.next s.count + j) % 2 ^ 32 = rw (lt-ltb j s.count h) at (C.ticket j (omega arith)) in
      e ∙ behind_next s.next s.count j F.next_lt h few

  -- the last runner

  first_ran : (k : ℕ) → 0 < k → 1 ≤ entry s.used 0 → FirmRan (entry s.ticket 0) (rows_from (firm_at s) 0 k) × FirstIs (firm_of (entry s.ticket 0)) (rows_from (firm_at s) 0 k)
  unfolding rows_from
  first_ran zero l h = absurd (omega arith)
  first_ran (suc k) l h = (inl (refl, h), refl)

  row_ran : (i : ℕ) → bit s.«open» i ≡ true → 0 < entry s.run i → HasRun (slot_at rows s i)
  row_ran i o r = go (entry s.run i) r refl
    where
      go : (x : ℕ) → 0 < x → entry s.run i ≡ x → HasRun (slot_at rows s i)
      go zero p e = absurd (omega arith)
      go (suc x) p e = (x, rw (o, e))

  row_there : (i : ℕ) → bit s.«open» i ≡ true → i < rows.table.n
  row_there i o = go (dec_lt i rows.table.n)
    where
      go : Dec (i < rows.table.n) → i < rows.table.n
      go (yes l) = l
      go (no n) = absurd (true≢false (sym o ∙ open_in i (omega arith)))

  ran_last : LastRan (last_of s) (slots_of rows s) (firms_of s) × FirstIs (last_of s) (firms_of s)
  ran_last = go s.last C.last_ok_lem
    where
      go : (l : Last) → last_test s l ≡ true → LastRan (last_with (entry s.ticket 0) l) (slots_of rows s) (firms_of s) × FirstIs (last_with (entry s.ticket 0) l) (firms_of s)
      go (ran.Hard i) e =
          let (o, r) = and_true (bit s.«open» i) (ltb 0 (entry s.run i)) e in
          let l = row_there i o in
          rw (lt-ltb i 16 (omega (arith, l, C.few)))
          (rows_hold (slot_at rows s) HasRun i 0 rows.table.n (omega arith) (omega arith) (row_ran i o (ltb-true 0 (entry s.run i) r)), tt)
      go ran.Firm e =
          let (c, u) = and_true (ltb 0 s.count) (ltb 0 (entry s.used 0)) e in
          first_ran s.count (ltb-true 0 s.count c) (ltb-true 0 (entry s.used 0) u)
      go ran.Nobody e = (tt, tt)

  conditions : Image (station_of rows s)
  unfolding station_of
  conditions =
      let slots_are : rows_of (slots_of rows s) ≡ rows_from (table_row rows.table) 0 rows.table.n = map_rows (λ x. x.row) (slot_at rows s) 0 rows.table.n in
      let few = C.few in
      record {
        clock_lt = F.clock_lt;
        table = rw slots_are (record {
          few = rw (length_rows (table_row rows.table) 0 rows.table.n) few;
          narrow = rows_all (λ r. r.T < 2 ^ 16) (table_row rows.table) 0 rows.table.n (λ i a b. F.t_lt i);
          no_fault = (table_fault_iff (rows_from (table_row rows.table) 0 rows.table.n)).1 (
            rows_all RowOk (table_row rows.table) 0 rows.table.n (λ i a b. row_ok i (omega arith)),
            set_once (table_row rows.table) rows.table.n few (λ i h. C.rank_low i (omega arith)) C.ranks,
          );
        });
        good = rows_all Good (slot_at rows s) 0 rows.table.n (λ i a b. good i (omega arith));
        runs = rows_run (slot_at rows s) (last_at (last_of s)) 0 rows.table.n (λ i a b. runs i (omega arith));
        firms = rows_all (λ f. last_to (last_of s) f.ticket ≡ false → Live f) (firm_at s) 0 s.count (λ j a b. live j (omega arith));
        paid = rows_all (λ f. (1 ≤ f.budget) × (f.run ≤ f.budget) × (f.budget < 2 ^ 16)) (firm_at s) 0 s.count (λ j a b. paid j (omega arith));
        tickets = record {
          few = rw (length_rows (firm_at s) 0 s.count) C.firms_few;
          next_lt = F.next_lt;
          to_next = to_tickets s.next (firm_at s) 0 s.count (λ j a b. let e : s.count - j ≡ 0 + s.count - j = omega arith in rw e at (ticket_is j (omega arith)));
          first = ran_last.1;
        };
        last_ran = ran_last.0;
      }

  pub imaged : Imaged rows s
  imaged = record { stored = record { kept = kept; image = (ImageIs.image_iff (station_of rows s)).1 conditions }; long = L }
