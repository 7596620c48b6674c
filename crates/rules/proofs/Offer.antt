-- An accepted offer: what it has passed, that its room test is its promise, and that it leaves the promises made before. Assumes nothing.
use Prim.Native.Nat.{ℕ, ◌+◌, ◌<◌, ◌≤◌}
use mathlib.Core.Bool.{Bool, cond, false, true}
use mathlib.Core.List.{List, [], ◌∷◌}
use mathlib.Core.Logic.{inl, inr}
use mathlib.Core.Path.{refl, ◌≡◌}
use borrow.Author.Tests.{eqb-false, leb-false, leb-true}
use lib.Dec.{eqb, leb, ltb}
use lib.ListN.{length}
use native.Mathlib.Omega.{arith}
use Rattle.rules.specs.Lists.{All}
use Rattle.rules.specs.Refusals.{B_zero, d_under_b, queue_full, room_short}
use Rattle.rules.specs.Station.{Firm, Station}
use Rattle.rules.specs.Tick.{last_to}
use Rattle.rules.specs.Offer.{accept, claims, fits, new_firm, no_offer, offer, queued, unrun}
use Rattle.rules.specs.Promise.{OnOffered}
use Rattle.rules.proofs.Claims.{claims_are}
use Rattle.rules.proofs.Demand.{demands, min_of}
use Rattle.rules.proofs.Facts.{FirmsOk, Live}
use Rattle.rules.proofs.Queue.{Held, Is, Other, Queued, Room, rest, room_queued}
use Rattle.rules.proofs.Tick.{Inv}
use Rattle.rules.proofs.Walks.{all_last}

-- the checks that an accepted offer has passed
pub record Passed (st : Station) (B d : ℕ) : Type 0 where
  pub pos : 1 ≤ B
  pub few : length st.firms < 8
  pub fit : fits st B d ≡ true

pub on_offer : (P : Station → ℕ → Type 0) (st : Station) (B d : ℕ)
    → (Passed st B d → OnOffered P (accept st B)) → OnOffered P (offer st B d)
unfolding offer
on_offer P st B d h = go (eqb B 0) refl (ltb d B) (leb 8 (length st.firms)) refl (fits st B d) refl
  where
    pos : (B ≡ 0 → ⊥) → 1 ≤ B
    pos n = omega arith

    go : (a : Bool) → eqb B 0 ≡ a → (b c : Bool) → leb 8 (length st.firms) ≡ c → (e : Bool) → fits st B d ≡ e
        → OnOffered P (cond a (no_offer B_zero) (cond b (no_offer d_under_b) (cond c (no_offer queue_full) (cond e (accept st B) (no_offer room_short)))))
    go true q b c p e q' = tt
    go false q true c p e q' = tt
    go false q false true p e q' = tt
    go false q false false p true q' = h (record { pos = pos (eqb-false B 0 q); few = leb-false 8 (length st.firms) p; fit = q' })
    go false q false false p false q' = tt

-- the queue takes a job in: those that it has stay
room_old : (t B r δ a : ℕ) (f : Firm) → Other t f → (fs : List Firm) → Room t B r δ a fs → Room t B r δ a (queued f fs)
room_old t B r δ a f n [] h = absurd h
room_old t B r δ a f n (e ∷ es) (inl (m, i, o)) = inl (m, i, all_last (Other t) f es n o)
room_old t B r δ a f n (e ∷ es) (inr (o, h)) = inr (o, room_old t B r δ (a + rest e) f n es h)

-- the room test is the promise
room_new : (t B r δ a : ℕ) (f : Firm) → Is t B r f → (fs : List Firm) → All (Other t) fs → a + (rest f + unrun fs) ≤ δ → Room t B r δ a (queued f fs)
room_new t B r δ a f i [] o h = inl (omega arith, i, tt)
room_new t B r δ a f i (e ∷ es) (o, os) h = inr (o, room_new t B r δ (a + rest e) f i es os (omega arith))

pub offer_held : (st : Station) (B d : ℕ) → All (Other st.next) st.firms → OnOffered (λ st' t. Held t B 0 d st'.slots st'.firms) (offer st B d)
offer_held st B d o = on_offer (λ st' t. Held t B 0 d st'.slots st'.firms) st B d (λ c.
    room_new st.next B 0 d (demands min_of st.slots d) (new_firm st B) (record { ticket_is = refl; budget_is = refl; run_is = refl }) st.firms o
    (omega (arith, claims_are st.slots d, leb-true (claims st.slots d + (B + unrun st.firms)) d c.fit)))

no_longer : (t B r δ : ℕ) (fs : List Firm) → Queued t B r δ fs → All (Other t) fs → ⊥
no_longer t B r δ [] h o = h
no_longer t B r δ (f ∷ fs) (inl (i, _)) (o, os) = o i.ticket_is
no_longer t B r δ (f ∷ fs) (inr (_, h)) (o, os) = no_longer t B r δ fs h os

-- a later offer stands behind
pub offer_keeps : (t B r δ : ℕ) (st : Station) (B' d : ℕ) → All (Other st.next) st.firms → Held t B r δ st.slots st.firms
    → OnOffered (λ st' k. Held t B r δ st'.slots st'.firms) (offer st B' d)
offer_keeps t B r δ st B' d o H = on_offer (λ st' k. Held t B r δ st'.slots st'.firms) st B' d (λ c.
    room_old t B r δ (demands min_of st.slots δ) (new_firm st B') (λ q. no_longer t B r δ st.firms (room_queued t B r δ (demands min_of st.slots δ) st.firms H) (rw q at o)) st.firms H)

pub offer_firms : (st : Station) (B d : ℕ) → FirmsOk st.last st.firms → OnOffered (λ st' k. FirmsOk st'.last st'.firms) (offer st B d)
offer_firms st B d F = on_offer (λ st' k. FirmsOk st'.last st'.firms) st B d
    (λ c. all_last (λ f. last_to st.last f.ticket ≡ false → Live f) (new_firm st B) st.firms (λ q. c.pos) F)

pub offer_inv : (st : Station) (B d : ℕ) → Inv st → OnOffered (λ st' k. Inv st') (offer st B d)
offer_inv st B d I = on_offer (λ st' k. Inv st') st B d (λ c. record { good = I.good; runs = I.runs; plan = I.plan; safe = I.safe })
