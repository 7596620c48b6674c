-- The tests on the block are tests on what is read from it: each part, both ways. Assumes nothing.
use Rattle.std.proofs.Common.{◌≡◌, ℕ, ◌+◌, ◌*◌, ◌%◌, ◌^◌, ◌<◌, ◌≤◌, Bool, true, false, cond, not, ◌&&◌, ◌||◌, eqb, ltb, ◌↔◌, List, sym, refl, ap, ◌∙◌, one-mul, arith, ltb-false, ltb-true, le-ltb, lt-ltb, eq-eqb, eqb-true}
use mathlib.Core.Bool.{false≢true}
use mathlib.Core.Logic.Iff
use borrow.Author.Tests.{eqb-false}
use lib.Bits.{and_le_l, and_le_r, bit_or, bit_xor, xor_add_and, xor_self}
use Rattle.rules.specs.Tick.{bit}
use Rattle.rules.proofs.Bools.{and_iff}
use Rattle.rules.proofs.ImageTests.{le_iff}
use Rattle.state.specs.Meaning.{entry, wrapped}
use Rattle.state.specs.Sets.{known, others}
use Rattle.state.specs.declared.Last.{Last}
use Rattle.state.specs.declared.Last.TheVariants as ran
use Rattle.state.specs.declared.Rows.{Rows}
use Rattle.state.specs.declared.State.{State}
use Rattle.state.proofs.Bits.{bit_known, bit_of_or, bit_others, known_lt}
use Rattle.block.specs.Places.{C_at, D_at, M_at, T_at, U_at, budget_at, clock_at, count_at, free_at, last_at, n_at, next_at, open_at, rank_at, reserved_at, reserved_bytes, rested_at, run_at, stamp_at, ticket_at, used_at}
use Rattle.block.specs.Words.{le, les_at}
use Rattle.block.proofs.Widths.{one_byte}
use Rattle.block.specs.Layout.{last_named, last_number, rows_at, state_at}
use Rattle.block.specs.Tests
use Rattle.block.specs.Tests.{fields_good, firm_fault, firm_mark, free_good, hard_fault, image_good, jobs_good, or_of, queue_good, rank_bit, rest_good, row_mark, stamp_fault, table_good, times_good}
use Rattle.block.proofs.Bits.{firm_mark_lem, row_mark_lem}
use Rattle.block.proofs.Entered.{entry_is}
use Rattle.block.proofs.Last.{number_back}
use Rattle.block.proofs.Ors.{faultless, le_or, no_fault, none_or, or_alike, or_below, or_none}

-- the last runner, if a job, is open and has run
abbrev pub last_test : State → Last → Bool
last_test s (ran.Hard i) = bit s.«open» i && ltb 0 (entry s.run i)
last_test s ran.Firm = ltb 0 s.count && ltb 0 (entry s.used 0)
last_test s ran.Nobody = true

-- what the tests say of the rows and the state, entry by entry
pub record Checked (rows : Rows) (s : State) : Type 0 where
  pub few : rows.table.n ≤ 16
  pub firms_few : s.count ≤ 8
  pub row : (i : ℕ) → i < 16 → hard_fault (ltb i rows.table.n) (bit s.«open» i) (eqb i (last_number s.last)) (entry rows.table.c i) (entry rows.table.d i) (entry rows.table.t i) (entry rows.u i) (entry rows.table.m i) (entry s.run i) ≡ 0
  pub stamp : (i : ℕ) → i < 16 → stamp_fault (bit s.rested i || not (ltb i rows.table.n)) (entry rows.table.t i) s.clock (entry s.stamp i) ≡ 0
  pub firm : (j : ℕ) → j < 8 → firm_fault (ltb j s.count) (eqb j 0 && eqb 16 (last_number s.last)) (entry s.budget j) (entry s.used j) ≡ 0
  pub ticket : (j : ℕ) → j < 8 → entry s.ticket j ≡ cond (ltb j s.count) ((wrapped s.next s.count + j) % 2 ^ 32) 0
  pub ranks : or_of (λ i. 2 ^ (entry rows.table.rank i % 32)) rows.table.n ≡ known rows.table.n
  pub rank_low : (i : ℕ) → i < 16 → entry rows.table.rank i < 32
  pub rank_past : (i : ℕ) → i < 16 → rows.table.n ≤ i → entry rows.table.rank i ≡ 0
  pub open_le : s.«open» ≤ known rows.table.n
  pub rested_le : s.rested ≤ known rows.table.n
  pub last_ok_lem : last_test s s.last ≡ true

-- the bytes kept free are 0
pub record Free (b : List ℕ) : Type 0 where
  pub front : entry b free_at ≡ 0
  pub behind : (i : ℕ) → i < reserved_bytes → entry b (reserved_at + i) ≡ 0

-- what the tests say of the bytes
pub record TestsSay (b : List ℕ) : Type 0 where
  pub once : or_of (rank_bit b) (entry b n_at) ≡ known (entry b n_at)
  pub low : or_of (λ i. entry b (rank_at + i)) 16 < 32
  pub blank : (i : ℕ) → i < 16 → Tests.past_fault b (entry b n_at) i ≡ 0
  pub runs : (i : ℕ) → i < 16 → Tests.hard_fault_at b (known (entry b n_at)) (le 2 b open_at) (row_mark (entry b last_at)) i ≡ 0
  pub opens : le 2 b open_at ≤ known (entry b n_at)
  pub stamps : (i : ℕ) → i < 16 → Tests.stamp_fault_at b (bit_or (le 2 b rested_at) (others (known (entry b n_at)))) (le 4 b clock_at) i ≡ 0
  pub rests : le 2 b rested_at ≤ known (entry b n_at)
  pub firms : (j : ℕ) → j < 8 → Tests.firm_fault_at b (known (entry b count_at)) (firm_mark (entry b last_at)) j ≡ 0
  pub tickets : (j : ℕ) → j < 8 → Tests.ticket_fault_at b (known (entry b count_at)) (wrapped (le 4 b next_at) (entry b count_at)) j ≡ 0
  pub last : Tests.last_good b (entry b last_at) (le 2 b open_at) (entry b count_at) ≡ true
  pub free : Free b

-- small tests

equal_xor : (a b : ℕ) → bit_xor a b ≡ 0 → a ≡ b
equal_xor a b e = omega (arith, xor_add_and a b, and_le_l a b, and_le_r a b)

-- no fault together is no fault in each
faults_iff : (f : ℕ → ℕ) (n : ℕ) → (eqb (or_of f n) 0 ≡ true) ↔ ((i : ℕ) → i < n → f i ≡ 0)
faults_iff f n = (λ e. no_fault f n (eqb-true (or_of f n) 0 e), λ h. eq-eqb (or_of f n) 0 (faultless f n h))

last_low : (k : ℕ) (row first : Bool) → cond (ltb k 16) row (cond (eqb k 16) first (eqb k 17)) ≡ true → k ≤ 17
last_low k row first = go (ltb k 16) refl (eqb k 16) refl (eqb k 17) refl
  where
    go : (a : Bool) → ltb k 16 ≡ a → (x : Bool) → eqb k 16 ≡ x → (y : Bool) → eqb k 17 ≡ y → cond a row (cond x first y) ≡ true → k ≤ 17
    go true p x q y r e = omega (arith, ltb-true k 16 p)
    go false p true q y r e = omega (arith, eqb-true k 16 q)
    go false p false q true r e = omega (arith, eqb-true k 17 r)
    go false p false q false r e = absurd (false≢true e)

-- the tests, and what they say

module _ (b : List ℕ) where
  table_iff : (table_good b (entry b n_at) ≡ true)
      ↔ (((or_of (rank_bit b) (entry b n_at) ≡ known (entry b n_at)) × (or_of (λ i. entry b (rank_at + i)) 16 < 32)) × ((i : ℕ) → i < 16 → Tests.past_fault b (entry b n_at) i ≡ 0))
  table_iff =
      let ranks = or_of (rank_bit b) (entry b n_at) in
      let all = or_of (λ i. entry b (rank_at + i)) 16 in
      and_iff (and_iff (eqb-true ranks (known (entry b n_at)), eq-eqb ranks (known (entry b n_at))) (ltb-true all 32, lt-ltb all 32)) (faults_iff (Tests.past_fault b (entry b n_at)) 16)

  jobs_iff : (jobs_good b (known (entry b n_at)) (entry b last_at) ≡ true)
      ↔ (((i : ℕ) → i < 16 → Tests.hard_fault_at b (known (entry b n_at)) (le 2 b open_at) (row_mark (entry b last_at)) i ≡ 0) × (le 2 b open_at ≤ known (entry b n_at)))
  jobs_iff = and_iff (faults_iff (Tests.hard_fault_at b (known (entry b n_at)) (le 2 b open_at) (row_mark (entry b last_at))) 16) (le_iff (le 2 b open_at) (known (entry b n_at)))

  times_iff : (times_good b (known (entry b n_at)) ≡ true)
      ↔ (((i : ℕ) → i < 16 → Tests.stamp_fault_at b (bit_or (le 2 b rested_at) (others (known (entry b n_at)))) (le 4 b clock_at) i ≡ 0) × (le 2 b rested_at ≤ known (entry b n_at)))
  times_iff = and_iff (faults_iff (Tests.stamp_fault_at b (bit_or (le 2 b rested_at) (others (known (entry b n_at)))) (le 4 b clock_at)) 16) (le_iff (le 2 b rested_at) (known (entry b n_at)))

  queue_iff : (queue_good b (entry b count_at) (entry b last_at) ≡ true)
      ↔ (((j : ℕ) → j < 8 → Tests.firm_fault_at b (known (entry b count_at)) (firm_mark (entry b last_at)) j ≡ 0)
      × ((j : ℕ) → j < 8 → Tests.ticket_fault_at b (known (entry b count_at)) (wrapped (le 4 b next_at) (entry b count_at)) j ≡ 0))
  queue_iff =
      and_iff (faults_iff (Tests.firm_fault_at b (known (entry b count_at)) (firm_mark (entry b last_at))) 8)
      (faults_iff (Tests.ticket_fault_at b (known (entry b count_at)) (wrapped (le 4 b next_at) (entry b count_at))) 8)

  free_iff : (free_good b ≡ true) ↔ Free b
  free_iff =
      let f : ℕ → ℕ = λ i. entry b (reserved_at + i) in (
        λ e. let (behind, front) = or_none (or_of f reserved_bytes) (entry b free_at) (eqb-true (bit_or (or_of f reserved_bytes) (entry b free_at)) 0 e) in record { front = front; behind = no_fault f reserved_bytes behind },
        λ F. eq-eqb (bit_or (or_of f reserved_bytes) (entry b free_at)) 0 (none_or (or_of f reserved_bytes) (entry b free_at) (faultless f reserved_bytes F.behind) F.front),
      )

  rest_iff : (rest_good b (entry b count_at) (entry b last_at) ≡ true) ↔ ((Tests.last_good b (entry b last_at) (le 2 b open_at) (entry b count_at) ≡ true) × Free b)
  rest_iff = and_iff Iff.rfl free_iff

  fields_iff : (fields_good b (entry b n_at) (entry b count_at) (entry b last_at) ≡ true) ↔ TestsSay b
  fields_iff = Iff.trans (and_iff (and_iff (and_iff (and_iff table_iff jobs_iff) times_iff) queue_iff) rest_iff) (
    λ ((((((once, low), blank), (runs, opens)), (stamps, rests)), (firms, tickets)), (last, free)).
        record { once = once; low = low; blank = blank; runs = runs; opens = opens; stamps = stamps; rests = rests; firms = firms; tickets = tickets; last = last; free = free },
    λ T. ((((((T.once, T.low), T.blank), (T.runs, T.opens)), (T.stamps, T.rests)), (T.firms, T.tickets)), (T.last, T.free)),
  )

-- on what is read from a block

module _ (b : List ℕ) where
  abbrev rows : Rows
  rows = rows_at b

  abbrev s : State
  s = state_at b

  row_entry : (at i : ℕ) → i < 16 → entry (les_at 2 b at 16) i ≡ le 2 b (at + 2 * i)
  row_entry at i h = entry_is (λ j. le 2 b (at + 2 * j)) 16 i h

  firm_entry : (at i : ℕ) → i < 8 → entry (les_at 2 b at 8) i ≡ le 2 b (at + 2 * i)
  firm_entry at i h = entry_is (λ j. le 2 b (at + 2 * j)) 8 i h

  rank_entry : (i : ℕ) → i < 16 → entry rows.table.rank i ≡ entry b (rank_at + i)
  rank_entry i h = entry_is (λ j. le 1 b (rank_at + 1 * j)) 16 i h ∙ one_byte b (rank_at + 1 * i) ∙ ap (λ k. entry b (rank_at + k)) (one-mul i)

  last_same : (k : ℕ) → k ≤ 17 → last_test s (last_named k) ≡ Tests.last_good b k s.«open» s.count
  last_same k h = go (ltb k 16) refl (eqb k 16) refl
    where
      go : (a : Bool) → ltb k 16 ≡ a → (x : Bool) → eqb k 16 ≡ x
          → last_test s (cond a (ran.Hard k) (cond x ran.Firm ran.Nobody))
          ≡ cond a (bit s.«open» k && ltb 0 (le 2 b (run_at + 2 * k))) (cond x (ltb 0 s.count && ltb 0 (le 2 b used_at)) (eqb k 17))
      go true e x q = rw (row_entry run_at k (ltb-true k 16 e))
      go false e true q = rw (firm_entry used_at 0 (omega arith))
      go false e false q = sym (eq-eqb k 17 (omega (arith, ltb-false k 16 e, eqb-false k 16 q)))

  abbrev last : ℕ
  last = entry b last_at

  module _ (few : rows.table.n ≤ 16) (firms_few : s.count ≤ 8) (last_le : last ≤ 17) where
    hard_same : (i : ℕ) → i < 16 → hard_fault (ltb i rows.table.n) (bit s.«open» i) (eqb i (last_number s.last)) (entry rows.table.c i) (entry rows.table.d i) (entry rows.table.t i) (entry rows.u i) (entry rows.table.m i) (entry s.run i)
        ≡ Tests.hard_fault_at b (known rows.table.n) s.«open» (row_mark last) i
    hard_same i h = rw (row_entry C_at i h, row_entry D_at i h, row_entry T_at i h, row_entry U_at i h, row_entry M_at i h, row_entry run_at i h, ← bit_known rows.table.n i few, number_back last last_le, ← row_mark_lem last i last_le h)

    stamp_same : (i : ℕ) → i < 16 → stamp_fault (bit s.rested i || not (ltb i rows.table.n)) (entry rows.table.t i) s.clock (entry s.stamp i)
        ≡ Tests.stamp_fault_at b (bit_or s.rested (others (known rows.table.n))) s.clock i
    stamp_same i h =
        let e : (bit s.rested i || not (ltb i rows.table.n)) ≡ bit (bit_or s.rested (others (known rows.table.n))) i =
        sym (bit_of_or s.rested (others (known rows.table.n)) i ∙ ap (λ x. bit s.rested i || x) (bit_others (known rows.table.n) i (known_lt rows.table.n) h ∙ ap not (bit_known rows.table.n i few))) in
        rw (e, row_entry T_at i h, entry_is (λ j. le 4 b (stamp_at + 4 * j)) 16 i h)

    firm_same : (j : ℕ) → j < 8 → firm_fault (ltb j s.count) (eqb j 0 && eqb 16 (last_number s.last)) (entry s.budget j) (entry s.used j)
        ≡ Tests.firm_fault_at b (known s.count) (firm_mark last) j
    firm_same j h = rw (firm_entry budget_at j h, firm_entry used_at j h, ← bit_known s.count j (omega arith), number_back last last_le, ← firm_mark_lem last j last_le)

    ticket_same : (j : ℕ) → j < 8 → bit_xor (entry s.ticket j) (cond (ltb j s.count) ((wrapped s.next s.count + j) % 2 ^ 32) 0)
        ≡ Tests.ticket_fault_at b (known s.count) (wrapped s.next s.count) j
    ticket_same j h = rw (entry_is (λ k. le 4 b (ticket_at + 4 * k)) 8 j h, ← bit_known s.count j (omega arith))

    rank_same : (i : ℕ) → i < rows.table.n → 2 ^ (entry rows.table.rank i % 32) ≡ rank_bit b i
    rank_same i h = rw (rank_entry i (omega arith))

    to_checked : TestsSay b → Checked rows s
    to_checked T = record {
      few = few;
      firms_few = firms_few;
      row = λ i h. hard_same i h ∙ T.runs i h;
      stamp = λ i h. stamp_same i h ∙ T.stamps i h;
      firm = λ j h. firm_same j h ∙ T.firms j h;
      ticket = λ j h. equal_xor (entry s.ticket j) (cond (ltb j s.count) ((wrapped s.next s.count + j) % 2 ^ 32) 0) (ticket_same j h ∙ T.tickets j h);
      ranks = or_alike (λ i. 2 ^ (entry rows.table.rank i % 32)) (rank_bit b) rows.table.n rank_same ∙ T.once;
      rank_low = λ i h. rw (rank_entry i h) (omega (arith, le_or (λ j. entry b (rank_at + j)) 16 i h, T.low));
      rank_past = λ i h n. rw (rank_entry i h) (rw (le-ltb i rows.table.n n) at (T.blank i h));
      open_le = T.opens;
      rested_le = T.rests;
      last_ok_lem = last_same last last_le ∙ T.last;
    }

    of_checked : Checked rows s → Free b → TestsSay b
    of_checked C F = record {
      once = sym (or_alike (λ i. 2 ^ (entry rows.table.rank i % 32)) (rank_bit b) rows.table.n rank_same) ∙ C.ranks;
      low = or_below (λ j. entry b (rank_at + j)) 5 16 (λ i h. rw (rank_entry i h) at (C.rank_low i h));
      blank = past;
      runs = λ i h. sym (hard_same i h) ∙ C.row i h;
      opens = C.open_le;
      stamps = λ i h. sym (stamp_same i h) ∙ C.stamp i h;
      rests = C.rested_le;
      firms = λ j h. sym (firm_same j h) ∙ C.firm j h;
      tickets = λ j h. sym (ticket_same j h) ∙ ap (bit_xor (entry s.ticket j)) (sym (C.ticket j h)) ∙ xor_self (entry s.ticket j);
      last = sym (last_same last last_le) ∙ C.last_ok_lem;
      free = F;
    }
      where
        past : (i : ℕ) → i < 16 → Tests.past_fault b rows.table.n i ≡ 0
        past i h = go (ltb i rows.table.n) refl
          where
            go : (a : Bool) → ltb i rows.table.n ≡ a → cond a 0 (entry b (rank_at + i)) ≡ 0
            go true e = refl
            go false e = rw (rank_entry i h) at (C.rank_past i h (ltb-false i rows.table.n e))

  pub image_iff : (image_good b ≡ true) ↔ (Checked rows s × Free b × (last ≤ 17))
  image_iff = (λ e. go (ltb 16 rows.table.n) refl (ltb 8 s.count) refl e, fro)
    where
      go : (x : Bool) → ltb 16 rows.table.n ≡ x → (y : Bool) → ltb 8 s.count ≡ y → cond x false (cond y false (fields_good b rows.table.n s.count last)) ≡ true
          → Checked rows s × Free b × (last ≤ 17)
      go true p y q e = absurd (false≢true e)
      go false p true q e = absurd (false≢true e)
      go false p false q e =
          let T = (fields_iff b).0 e in
          let last_le = last_low last _ _ T.last in
          (to_checked (ltb-false 16 rows.table.n p) (ltb-false 8 s.count q) last_le T, T.free, last_le)

      fro : Checked rows s × Free b × (last ≤ 17) → cond (ltb 16 rows.table.n) false (cond (ltb 8 s.count) false (fields_good b rows.table.n s.count last)) ≡ true
      fro (C, F, last_le) = rw (le-ltb 16 rows.table.n C.few, le-ltb 8 s.count C.firms_few) ((fields_iff b).1 (of_checked C.few C.firms_few last_le C F))
