-- The offer in memory is the rules' offer: the same claims, the same room, the same answer, and a stored state that means the station after it. Assumes nothing.
use Rattle.std.proofs.Common.{◌≡◌, ℕ, zero, suc, ◌+◌, ◌-◌, ◌^◌, ◌<◌, ◌≤◌, min, Bool, true, false, cond, eqb, ltb, leb, length, set, sym, refl, ap, ◌∙◌, zero-add, add-one, arith, length-set, get_or-set_other, get_or-set_same, leb-false}
use mathlib.Core.Path.{fun_ext}
use Rattle.rules.specs.Lists.{sum}
use Rattle.std.specs.Bool.{then_some}
use Rattle.rules.specs.Refusals.{B_zero, d_under_b, queue_full, room_short}
use Rattle.rules.specs.Station.{Firm, Station, closed, firm_of, opened}
use Rattle.rules.specs.Tick.{bit}
use Rattle.rules.specs.Offer.{Offered, accept, accepted, claims, fits, future_claim, job_claim, no_offer, offer, open_claim, queued, unrun}
use Rattle.rules.specs.Calls.{after_offer, offer_call, step}
use Rattle.rules.specs.Image.{is_image}
use Rattle.rules.proofs.Facts.{FirstIs}
use Rattle.rules.proofs.ImageIs.{image_iff, image_kept}
use Rattle.refusal.specs.declared.Refusal.TheVariants.{BZero, DUnderB, QueueFull, RoomShort}
use Rattle.state.specs.declared.Last.{Last}
use Rattle.state.specs.declared.Last.TheVariants as ran
use Rattle.state.specs.declared.Rows.{Rows}
use Rattle.state.specs.declared.State.{State}
use Rattle.state.specs.Meaning.{Kept, Stored, age_at, entry, firm_at, firms_of, last_of, last_with, rows_from, slot_at, slots_of, station_of}
use Rattle.state.proofs.Entries.{last_rows, total_rows}
use Rattle.state.proofs.Positions.{length_rows, same_rows}
use Rattle.offer.specs.Steps.{OfferMade, claim_at, claims_of, offer_made, open_of, queued_in, refused_by, row_now, ticket_for, unrun_of}
use Rattle.offer.specs.Answers.{OfferIs, offered_of}

-- the room

claim_is : (rows : Rows) (s : State) (d i : ℕ) → open_claim (slot_at rows s i) d + future_claim (slot_at rows s i) d ≡ claim_at rows s d i
claim_is rows s d i = go (bit s.«open» i)
  where
    go : (o : Bool)
        → job_claim (entry rows.table.c i) ((slot_at rows s i).U - age_at rows s i) (cond o (opened (entry s.run i)) closed) d + future_claim (slot_at rows s i) d
        ≡ open_of (row_now rows s i) d (then_some o (entry s.run i)) + future_claim (slot_at rows s i) d
    go true = refl
    go false = refl

claims_are : (rows : Rows) (s : State) (d : ℕ) → rows.table.n ≤ 16 → claims_of rows s d ≡ claims (slots_of rows s) d
unfolding claims_of
claims_are rows s d h =
    let e : min rows.table.n 16 ≡ rows.table.n = omega arith in
    ap (λ n. sum n (claim_at rows s d)) e
    ∙ ap (sum rows.table.n) (fun_ext (λ i. sym (claim_is rows s d i)))
    ∙ sym (total_rows (λ x. open_claim x d + future_claim x d) (slot_at rows s) rows.table.n)

unrun_is : (s : State) → unrun_of s ≡ unrun (firms_of s)
unfolding unrun_of
unrun_is s = sym (total_rows (λ f. f.budget - f.run) (firm_at s) s.count)

-- one more firm job

-- a queue whose first job ran last is not empty
first_there : (t : ℕ) (g : ℕ → Firm) (k : ℕ) → FirstIs (firm_of t) (rows_from g 0 k) → ◌≡◌ {A = ℕ} 0 k → ⊥
unfolding rows_from
first_there t g zero h e = h
first_there t g (suc k) h e = omega arith

last_is : (s : State) (B : ℕ) → FirstIs (last_of s) (firms_of s) → last_of (queued_in s B) ≡ last_of s
last_is s B h = go s.last h
  where
    go : (l : Last) → FirstIs (last_with (entry s.ticket 0) l) (firms_of s) → last_with (entry (set s.ticket s.count s.next) 0) l ≡ last_with (entry s.ticket 0) l
    go (ran.Hard i) f = refl
    go ran.Firm f = ap firm_of (get_or-set_other s.ticket s.count 0 s.next 0 (first_there (entry s.ticket 0) (firm_at s) s.count f))
    go ran.Nobody f = refl

module _ (rows : Rows) (s : State) (B : ℕ) (K : Kept rows s) (room : s.count < 8) where
  firm_new : firm_at (queued_in s B) s.count ≡ record { ticket = s.next; budget = B; run = 0 }
  firm_new = rw (
    get_or-set_same s.ticket s.count s.next 0 (omega (arith, K.queue.tickets)),
    get_or-set_same s.budget s.count B 0 (omega (arith, K.queue.budgets)),
    get_or-set_same s.used s.count 0 0 (omega (arith, K.queue.useds)),
  )

  firm_old : (j : ℕ) → (j ≡ s.count → ⊥) → firm_at (queued_in s B) j ≡ firm_at s j
  firm_old j n = rw (
    get_or-set_other s.ticket s.count j s.next 0 n,
    get_or-set_other s.budget s.count j B 0 n,
    get_or-set_other s.used s.count j 0 0 n,
  )

  firms_are : firms_of (queued_in s B) ≡ queued (record { ticket = s.next; budget = B; run = 0 }) (firms_of s)
  firms_are =
      ap (rows_from (firm_at (queued_in s B)) 0) (add-one s.count)
      ∙ last_rows (firm_at (queued_in s B)) 0 s.count
      ∙ rw (zero-add s.count, firm_new, same_rows (firm_at s) (firm_at (queued_in s B)) 0 s.count (λ j l h. firm_old j (λ e. omega arith)))

  station_is : FirstIs (last_of s) (firms_of s) → station_of rows (queued_in s B) ≡ (after_offer (station_of rows s) (accept (station_of rows s) B)).station
  unfolding station_of
  station_is f = rw (firms_are, last_is s B f, add-one s.next)

  kept : Kept rows (queued_in s B)
  kept = record {
    table = K.table;
    times = K.times;
    jobs = K.jobs;
    queue = let Q = K.queue in record {
      few = omega arith;
      budgets = length-set s.budget s.count B ∙ Q.budgets;
      useds = length-set s.used s.count 0 ∙ Q.useds;
      tickets = length-set s.ticket s.count s.next ∙ Q.tickets;
      past = λ j l.
          let e = firm_old j (λ q. omega arith) in
          let blank = Q.past j (omega arith) in
          (ap (λ f. f.ticket) e ∙ blank.0, ap (λ f. f.budget) e ∙ blank.1, ap (λ f. f.run) e ∙ blank.2);
    };
    last_below = K.last_below;
  }

-- the checks

-- by the outcomes of the four tests: what is made of an offer, here and by the rules
abbrev made_by : Bool → Bool → Bool → Bool → State → ℕ → OfferMade
made_by a b c e s B = cond a (refused_by BZero s) (cond b (refused_by DUnderB s) (cond c (refused_by QueueFull s) (cond e (ticket_for s B) (refused_by RoomShort s))))

abbrev ruled_by : Bool → Bool → Bool → Bool → Station → ℕ → Offered
ruled_by a b c e st B = cond a (no_offer B_zero) (cond b (no_offer d_under_b) (cond c (no_offer queue_full) (cond e (accept st B) (no_offer room_short))))

module _ (rows : Rows) (s : State) (B d : ℕ) (S : Stored rows s) where
  abbrev st : Station
  st = station_of rows s

  firms_length : length st.firms ≡ s.count
  unfolding station_of
  firms_length = length_rows (firm_at s) 0 s.count

  tests_are : offer_made rows s B d ≡ made_by (eqb B 0) (ltb d B) (leb 8 (length st.firms)) (fits st B d) s B
  unfolding offer_made station_of
  tests_are = rw (firms_length, claims_are rows s d S.kept.table.few, unrun_is s)

  ticket_is : s.count < 8 → is_image (after_offer st (accept st B)).station ≡ true → OfferIs rows s (ticket_for s B) (accept st B)
  unfolding station_of
  ticket_is l e =
      let same = station_is rows s B S.kept l ((image_iff st).0 S.image).tickets.first in
      (refl, same, record { kept = kept rows s B S.kept l; image = rw same e })

  pub offer_refines : B < 2 ^ 16 → d < 2 ^ 16 → OfferIs rows s (offer_made rows s B d) (offer (station_of rows s) B d)
  unfolding offer
  offer_refines b16 d16 = rw tests_are (go (eqb B 0) (ltb d B) (leb 8 (length st.firms)) refl (fits st B d) (image_kept st (offer_call B d) (b16, d16) S.image))
    where
      go : (a b c : Bool) → leb 8 (length st.firms) ≡ c → (e : Bool)
          → is_image (after_offer st (ruled_by a b c e st B)).station ≡ true
          → OfferIs rows s (made_by a b c e s B) (ruled_by a b c e st B)
      go true b c q e h = (refl, refl)
      go false true c q e h = (refl, refl)
      go false false true q e h = (refl, refl)
      go false false false q true h = ticket_is (rw firms_length at (leb-false 8 (length st.firms) q)) h
      go false false false q false h = (refl, refl)

  -- the same as equations; a refusal leaves the station as it was
  pub offer_steps : B < 2 ^ 16 → d < 2 ^ 16
      → ((offer_made rows s B d).offered ≡ offered_of (offer (station_of rows s) B d))
      × (station_of rows (offer_made rows s B d).state ≡ (step (station_of rows s) (offer_call B d)).station)
      × Stored rows (offer_made rows s B d).state
  offer_steps b16 d16 = go (offer_made rows s B d) (offer st B d) (offer_refines b16 d16)
    where
      go : (made : OfferMade) (o : Offered) → OfferIs rows s made o
          → (made.offered ≡ offered_of o) × (station_of rows made.state ≡ (after_offer st o).station) × Stored rows made.state
      go made (accepted st' t) x = x
      go made (no_offer why) x = (x.0, ap (station_of rows) x.1, rw x.1 S)
