-- The tick in memory is the rules' tick: on every state that a block may hold, and for every call. Assumes nothing.
use Rattle.std.proofs.Common.{◌≡◌, ℕ, suc, ◌-◌, ◌^◌, ◌<◌, ◌≤◌, Bool, true, false, cond, not, ◌&&◌, ◌||◌, eqb, ltb, ◌∷◌, length, sym, refl, ap, ◌∙◌, subst, ap₂, lt_of_le_of_lt, zero-add, arith, le-ltb, lt-ltb, eq-eqb, ne_eqb}
use native.Mathlib.Decide.{dec_lt}
use lib.Bits.{and_le_l, bit_and, or_lt}
use lib.ListN.{get_elem?}
use borrow.Author.Tests.{lt-leb, not-true}
use Rattle.rules.specs.Lists.{All}
use Rattle.rules.specs.Station.{Station, closed, is_open, opened, rested}
use Rattle.rules.specs.Tick.{bit, choose, close, none_ran, notes_of, opens, release, released, tick, unknown_bits, unready}
use Rattle.rules.specs.Tick as rules
use Rattle.rules.proofs.Bits.{bit_above, same_bits, set_at, set_past}
use Rattle.rules.proofs.Bools.{and_no, and_true, and_yes}
use Rattle.rules.proofs.Close.{close_good, close_live, close_queue, close_unspent, without_all}
use Rattle.rules.proofs.Facts.{Good, Paid, Unspent}
use Rattle.rules.proofs.Image.{Image, tick_image}
use Rattle.rules.proofs.ImageIs.{image_iff}
use Rattle.rules.proofs.Queue.{Other}
use Rattle.rules.proofs.Tick.{released_unspent}
use Rattle.rules.proofs.Tickets.{close_tickets}
use Rattle.rules.proofs.Walks.{all_both, each_all}
use Rattle.state.specs.declared.Last.{Last}
use Rattle.state.specs.declared.Last.TheVariants as ran
use Rattle.state.specs.declared.Rows.{Rows}
use Rattle.state.specs.declared.State.{State}
use Rattle.state.specs.Meaning.{Kept, LastBelow, Stored, entry, firm_at, last_of, last_with, rows_from, slot_at, slots_of, station_of, wrapped}
use Rattle.state.specs.Sets.{known, others}
use Rattle.state.proofs.Agrees.{Agrees}
use Rattle.state.proofs.Bits.{bit_of_and, bit_known, bit_of_or, bit_others, known_lt}
use Rattle.state.proofs.Positions.{all_rows, elem_of, first_row, length_rows}
use Rattle.state.proofs.Widths.{U_le, image_of_lem, positive, row_good, thin}
use Rattle.state.proofs.Bools.{leb_ltb}
use Rattle.answer.specs.Answers.{answer_of, runner_of}
use Rattle.answer.specs.Answers as answers
use Rattle.dispatch.specs.Refines.{TickRefines}
use Rattle.dispatch.specs.Steps.{Ticked, advanced, asked_in, closed_by, closing_in, nobody_ran, notes_in, ran_in, ready_in, released_by, stepped_in, tick_in, unready_in}
use Rattle.dispatch.proofs.Arrays.{bit_minus}
use Rattle.dispatch.proofs.RefineChoose.{choose_refines}
use Rattle.dispatch.proofs.RefineClose.{close_refines, first_others}
use Rattle.dispatch.proofs.RefineRelease.{release_kept, release_refines}
use Rattle.dispatch.proofs.RefineRun.{run_refines}

-- as TickRefines, but for the image
abbrev Steps : Rows → rules.Outcome → Ticked → Type 0
Steps rows o r = (r.answer ≡ answer_of o.answer) × (station_of rows r.state ≡ o.station) × Kept rows r.state

module _ (rows : Rows) (s : State) (S : Stored rows s) (set : ℕ) (small : set < 2 ^ 16) where
  abbrev st : Station
  st = station_of rows s

  I : Image st
  I = image_of_lem rows s S

  few : rows.table.n ≤ 16
  few = S.kept.table.few

  -- 12

  abbrev unknown_rows : ℕ
  unknown_rows = bit_and set (others (known rows.table.n))

  bit_unknown : (j : ℕ) → bit unknown_rows j ≡ (bit set j && not (ltb j rows.table.n))
  bit_unknown j = bit_minus set (known rows.table.n) small (known_lt rows.table.n) j ∙ rw (bit_known rows.table.n j few)

  unknown_is : unknown_rows ≡ unknown_bits (length (slots_of rows s)) set
  unknown_is = same_bits unknown_rows (unknown_bits (length (slots_of rows s)) set) (λ j.
      bit_unknown j ∙ sym (bit_above (length (slots_of rows s)) set j ∙ rw (length_rows (slot_at rows s) 0 rows.table.n, leb_ltb rows.table.n j)))

  -- 13
  none_ran_is : (d : Bool) → none_ran (last_of s) d ≡ (d && nobody_ran s.last)
  none_ran_is d = go s.last S.kept.last_below
    where
      go : (l : Last) → LastBelow l → none_ran (last_with (entry s.ticket 0) l) d ≡ (d && nobody_ran l)
      go (ran.Hard i) h = rw (lt-leb 16 i h, lt-ltb i 16 h) (sym (and_no d))
      go ran.Firm h = sym (and_no d)
      go ran.Nobody h = sym (and_yes d)

  module _ (d : Bool) where
    abbrev c : Station
    c = (close st d).station

    -- the state once the last job is closed
    abbrev t : State
    t = closed_by s (closing_in rows s d)

    t_agrees : Agrees rows t c
    t_agrees = (close_refines rows s S d).1

    t_kept : Kept rows t
    t_kept = (close_refines rows s S d).2

    -- 14

    rested_is : (j : ℕ) → j < rows.table.n → rested (slot_at rows t j) ≡ bit t.rested j
    rested_is j h = go (bit t.rested j) refl
      where
        go : (b : Bool) → bit t.rested j ≡ b → eqb (entry rows.table.t j - cond b (entry rows.table.t j) (wrapped t.clock (entry t.stamp j))) 0 ≡ b
        go true e = eq-eqb (entry rows.table.t j - entry rows.table.t j) 0 (omega arith)
        go false e = let l = t_kept.times.young j h e in ne_eqb (entry rows.table.t j - wrapped t.clock (entry t.stamp j)) 0 (λ z. omega arith)

    abbrev n : rules.Notes
    n = notes_of st set d

    asked_is : (j : ℕ) → bit (asked_in rows set) j ≡ (bit set j && ltb j rows.table.n)
    asked_is j = bit_of_and set (known rows.table.n) j ∙ rw (bit_known rows.table.n j few)

    -- of a row that is there
    bit_unready : (j : ℕ) → j < rows.table.n → bit (unready_in t) j ≡ not (rested (slot_at rows t j) && not (is_open (slot_at rows t j).job))
    bit_unready j h =
        rw (
          bit_of_or t.«open» (others t.rested) j,
          bit_others t.rested j t_kept.times.rested_lt (omega (arith, few)),
          rested_is j h,
        )
        (go (bit t.«open» j) (bit t.rested j))
      where
        go : (o r : Bool) → (o || not r) ≡ not (r && not (is_open (cond o (opened (entry t.run j)) closed)))
        go true true = refl
        go true false = refl
        go false true = refl
        go false false = refl

    slots_length : length c.slots ≡ rows.table.n
    slots_length = ap length (sym t_agrees.slots_is) ∙ length_rows (slot_at rows t) 0 rows.table.n

    -- what 14 says of each row
    bit_not_ready : (j : ℕ) → bit n.not_ready j ≡ ((bit set j && ltb j rows.table.n) && bit (unready_in t) j)
    bit_not_ready j = go (dec_lt j rows.table.n)
      where
        go : Dec (j < rows.table.n) → bit n.not_ready j ≡ ((bit set j && ltb j rows.table.n) && bit (unready_in t) j)
        go (yes l) =
            rw (zero-add j) at (set_at (unready set) 0 j c.slots (slot_at rows t j) (ap (λ ss. get_elem? ss j) (sym t_agrees.slots_is) ∙ (rw (zero-add j) at (elem_of (slot_at rows t) 0 j rows.table.n l))))
            ∙ rw (lt-ltb j rows.table.n l, and_yes (bit set j), bit_unready j l)
        go (no l) = set_past (unready set) 0 j c.slots (omega (arith, slots_length)) ∙ rw (le-ltb j rows.table.n (omega arith), and_no (bit set j))

    not_ready_is : bit_and (asked_in rows set) (unready_in t) ≡ n.not_ready
    not_ready_is = same_bits (bit_and (asked_in rows set) (unready_in t)) n.not_ready (λ j. bit_of_and (asked_in rows set) (unready_in t) j ∙ rw (asked_is j) (sym (bit_not_ready j)))

    notes_are : notes_in rows s t set d ≡ answers.notes_of n
    unfolding rows_from station_of
    notes_are = λ i. record { unknown = unknown_is i; none_ran = sym (none_ran_is d) i; not_ready = not_ready_is i }

    -- the rows released
    abbrev ready : ℕ
    ready = ready_in rows t set

    asked_lt : asked_in rows set < 2 ^ 16
    asked_lt = lt_of_le_of_lt (and_le_l set (known rows.table.n)) small

    unready_lt : unready_in t < 2 ^ 16
    unready_lt = or_lt 16 t.«open» (others t.rested) t_kept.jobs.open_lt (omega arith)

    bit_ready : (j : ℕ) → bit ready j ≡ ((bit set j && ltb j rows.table.n) && not (bit (unready_in t) j))
    bit_ready j = bit_minus (asked_in rows set) (unready_in t) asked_lt unready_lt j ∙ rw (asked_is j)

    ready_lt : ready < 2 ^ 16
    ready_lt = lt_of_le_of_lt (and_le_l (asked_in rows set) (others (unready_in t))) asked_lt

    opens_is : (j : ℕ) → bit ready j ≡ opens set n j
    unfolding station_of
    opens_is j =
        bit_ready j
        ∙ rw (bit_above (length (slots_of rows s)) set j, length_rows (slot_at rows s) 0 rows.table.n, leb_ltb rows.table.n j, bit_not_ready j) (go (bit set j) (ltb j rows.table.n) (bit (unready_in t) j))
      where
        go : (b l u : Bool) → ((b && l) && not u) ≡ (b && not ((b && not l) || ((b && l) && u)))
        go false l u = refl
        go true false u = refl
        go true true u = refl

    ready_known : (j : ℕ) → rows.table.n ≤ j → bit ready j ≡ false
    ready_known j h = bit_ready j ∙ rw (le-ltb j rows.table.n h, and_no (bit set j))

    closed_yet : (j : ℕ) → j < rows.table.n → bit ready j ≡ true → bit t.«open» j ≡ false
    closed_yet j h e = go (bit t.«open» j) (rw (bit_of_or t.«open» (others t.rested) j) at (not-true (bit (unready_in t) j) (and_true (bit set j && ltb j rows.table.n) (not (bit (unready_in t) j)) (sym (bit_ready j) ∙ e)).1))
      where
        go : (o : Bool) → (o || bit (others t.rested) j) ≡ false → o ≡ false
        go true q = q
        go false q = refl

    -- the state once the set is released
    abbrev u : State
    u = released_by t ready

    u_kept : Kept rows u
    u_kept = release_kept rows t t_kept ready ready_lt ready_known closed_yet (positive rows s S)

    u_slots : slots_of rows u ≡ release (opens set n) c.slots
    u_slots = release_refines rows t t_kept ready ready_lt ready_known closed_yet (positive rows s S) ∙ ap (release (bit ready)) t_agrees.slots_is ∙ (λ i. release (λ j. opens_is j i) c.slots)

    unspent_all : All Unspent (slots_of rows u)
    unspent_all = rw u_slots (each_all (λ x. Good x × Unspent x) Unspent (λ k x. cond (opens set n k) (released x) x) (λ k x. released_unspent (opens set n k) x) 0 c.slots
        (all_both Good Unspent c.slots (close_good st d I.good) (close_unspent st d I.runs)))

    unspent : (i : ℕ) → i < rows.table.n → bit u.«open» i ≡ true → entry u.run i < 65535
    unspent i h e =
        let r = all_rows Unspent (slot_at rows u) 0 rows.table.n unspent_all i (omega arith) (omega arith) (entry u.run i) (rw e) in
        omega (arith, r, row_good rows s S i h, thin rows s S i h)

    queue_is : (k : ℕ) → u.count ≡ suc k → c.firms ≡ firm_at u 0 ∷ rows_from (firm_at u) 1 k
    queue_is k counted = sym t_agrees.firms_is ∙ first_row (firm_at u) 0 u.count k counted

    queue : (k : ℕ) → u.count ≡ suc k → (entry u.used 0 < 65535) × All (Other (entry u.ticket 0)) (rows_from (firm_at u) 1 k)
    queue k counted =
        let e = queue_is k counted in
        let (live, lives) = rw e at (close_live st d I.firms) in
        let (paid, paids) = rw e at (close_queue (All Paid) (without_all Paid) st d I.paid) in
        let q = rw e at (close_tickets st d I.tickets) in
        (omega (arith, live, paid), first_others st.next (firm_at u 0) (rows_from (firm_at u) 1 k) I.tickets.next_lt q.0 q.1)

    steps : (wants : Bool) → Steps rows (rules.stepped (close st d) set n wants) (stepped_in rows t ready wants (closing_in rows s d) (notes_in rows s t set d))
    unfolding stepped_in
    steps wants =
        let chosen = choose_refines rows u u_kept (U_le rows s S) wants in
        let choice = ap₂ (λ ss fs. choose ss fs wants) u_slots t_agrees.firms_is in
        let (ran, kept) = run_refines rows u u_kept (thin rows s S) unspent queue c t_agrees.clock_is t_agrees.firms_is t_agrees.next_is wants in (
          λ i. record { clock = t_agrees.clock_is i; runner = (chosen ∙ ap runner_of choice) i; closing = sym (close_refines rows s S d).0 i; notes = notes_are i },
          ap (λ x. station_of rows (advanced rows (ran_in u x))) chosen ∙ ran ∙ ap₂ (rules.run c) u_slots choice,
          subst (λ x. Kept rows (advanced rows (ran_in u x))) (sym chosen) kept,
        )

    tick_steps : (wants : Bool) → Steps rows (tick st set d wants) (tick_in rows s set d wants)
    unfolding tick tick_in station_of
    tick_steps wants = steps wants

pub tick_refines : (rows : Rows) (s : State) → Stored rows s → (set : ℕ) → set < 2 ^ 16 → (d wants : Bool)
    → TickRefines rows (tick (station_of rows s) set d wants) (tick_in rows s set d wants)
tick_refines rows s S set small d wants =
    let (v, e, k) = tick_steps rows s S set small d wants in
    (v, e, record { kept = k; image = rw e ((image_iff (tick (station_of rows s) set d wants).station).1 (tick_image (station_of rows s) set d wants (image_of_lem rows s S))) })
