-- A block that is the image of a state, and the station that the state means: each call on the one is the call on the other. Assumes nothing.
use Prim.Native.Nat.{ℕ}
use mathlib.Core.Bool.{Bool, true, false, cond}
use mathlib.Core.List.{List, [], ◌∷◌}
use mathlib.Core.Option.{some}
use mathlib.Core.Path.{◌≡◌, refl, sym, ap, ap₂, subst}
use borrow.Author.Tests.{eq-eqb}
use native.Mathlib.Omega.{arith}
use lib.ListN.{length}
use Rattle.rules.specs.Calls.{AllShort, Call, Short, after, after_offer, after_tick, answered, as_ticked, done_flag, no_tick, offer_call, other_flag, replies, soft_flag, step, tick_call}
use Rattle.rules.specs.Image.{is_image}
use Rattle.rules.specs.Offer.{Offered, accepted, no_offer, offer}
use Rattle.rules.specs.Refusals.{number, unknown_flag}
use Rattle.rules.specs.Station.{Station}
use Rattle.rules.specs.Tables.{Bytes}
use Rattle.rules.specs.Tick.{Outcome, tick}
use Rattle.state.specs.declared.Rows.{Rows}
use Rattle.state.specs.declared.State.{State}
use Rattle.state.specs.Meaning.{Stored, station_of}
use Rattle.answer.specs.Below.{AnswerBelow}
use Rattle.dispatch.specs.Refines.{TickRefines}
use Rattle.dispatch.specs.Steps.{Ticked, tick_in}
use Rattle.dispatch.proofs.NamedRows.{answer_below}
use Rattle.dispatch.proofs.Refine.{tick_refines}
use Rattle.offer.specs.Answers.{OfferIs}
use Rattle.offer.specs.Steps.{OfferMade, offer_made}
use Rattle.offer.proofs.Refine.{offer_refines}
use Rattle.refusal.proofs.Numbered.{numbered}
use Rattle.block.specs.Image.{Imaged}
use Rattle.block.specs.Layout.{image_of, written_on}
use Rattle.block.specs.Places.{block_bytes}
use Rattle.block.proofs.Results.{block_promises}
use Rattle.std.specs.Prelude.{Option, Some, None, is_some}
use Rattle.block.specs.Tests.{decoded_as, decoded_of}
use Rattle.block.specs.declared.Decoded.{Decoded}
use Rattle.board.specs.declared.OfferAnswer.{OfferAnswer}
use Rattle.board.specs.declared.TickAnswer.{TickAnswer}
use Rattle.board.specs.Blocks.{Out, giving, made_on, offer_block, offer_decoded, tick_block, tick_decoded, ticked_on}
use Rattle.board.specs.Numbers.{refused_tick}
use Rattle.board.specs.Promises.{block_after, block_on, block_replies, reply_on, with_reply}
use Rattle.board.specs.Replies.{offer_reply, tick_reply}
use Rattle.board.proofs.Named.{answer_back, named_back}

pub record StandsFor (b : List ℕ) (st : Station) : Type 0 where
  pub rows : Rows
  pub state : State
  pub imaged : Imaged rows state
  pub block_is : image_of rows state ≡ b
  pub station_is : station_of rows state ≡ st

-- the table's arrays stay, and the state's have the lengths of what may be stored
stays_imaged : (rows : Rows) (s s' : State) → Imaged rows s → Stored rows s' → Imaged rows s'
stays_imaged rows s s' I S =
    let L = I.long in
    record {
      stored = S;
      long = record {
        c_long = L.c_long;
        d_long = L.d_long;
        t_long = L.t_long;
        u_long = L.u_long;
        rank_long = L.rank_long;
        m_long = L.m_long;
        run_long = S.kept.jobs.runs;
        stamp_long = S.kept.times.stamps;
        budget_long = S.kept.queue.budgets;
        used_long = S.kept.queue.useds;
        ticket_long = S.kept.queue.tickets;
      };
    }

written_over : (rows : Rows) (s s' : State) → Imaged rows s → Imaged rows s' → written_on (image_of rows s) s' ≡ image_of rows s'
unfolding written_on
written_over rows s s' I J =
    rw (eq-eqb (length (image_of rows s)) block_bytes (block_promises.image_bytes rows s I).1) (block_promises.write_image rows s s' I.long J.long)

module _ (rows : Rows) (s : State) (I : Imaged rows s) where
  abbrev b : List ℕ
  b = image_of rows s

  abbrev st : Station
  st = station_of rows s

  same : StandsFor b st
  same = record { rows = rows; state = s; imaged = I; block_is = refl; station_is = refl }

  -- the state after a step, written back
  stepped_stands : (s' : State) (st' : Station) → station_of rows s' ≡ st' → Stored rows s' → StandsFor (written_on b s') st'
  stepped_stands s' st' e S' =
      let J = stays_imaged rows s s' I S' in
      record { rows = rows; state = s'; imaged = J; block_is = sym (written_over rows s s' I J); station_is = e }

  ticked_stands : (o : Outcome) (r : Ticked) → TickRefines rows o r → AnswerBelow r.answer
      → (tick_reply (ticked_on r b).answer ≡ some (answered o.answer)) × StandsFor (ticked_on r b).block o.station
  ticked_stands o r (v, e, S') low = (rw v (answer_back o.answer (rw v at low)), stepped_stands r.state o.station e S')

  tick_on : (set flags : ℕ) → tick_block b set flags ≡ cond (other_flag flags) (giving (refused_tick (number unknown_flag)) b) (tick_decoded (decoded_as rows s) b set flags)
  unfolding tick_block
  tick_on set flags = ap (λ x. cond (other_flag flags) (giving (refused_tick (number unknown_flag)) b) (tick_decoded x b set flags)) (block_promises.decode_encode rows s I)

  tick_stands : (set flags : ℕ) → Short (tick_call set flags)
      → (reply_on b (tick_call set flags) ≡ some (step st (tick_call set flags)).reply) × StandsFor (block_on b (tick_call set flags)) (step st (tick_call set flags)).station
  tick_stands set flags (small, h) =
      subst (λ (o : Out TickAnswer). (tick_reply o.answer ≡ some (step st (tick_call set flags)).reply) × StandsFor o.block (step st (tick_call set flags)).station) (sym (tick_on set flags)) (go (other_flag flags))
    where
      go : (f : Bool)
          → (tick_reply (cond f (giving (refused_tick (number unknown_flag)) b) (tick_decoded (decoded_as rows s) b set flags)).answer
          ≡ some (after_tick st (cond f (no_tick unknown_flag) (as_ticked (tick st set (done_flag flags) (soft_flag flags))))).reply)
          × StandsFor (cond f (giving (refused_tick (number unknown_flag)) b) (tick_decoded (decoded_as rows s) b set flags)).block
          (after_tick st (cond f (no_tick unknown_flag) (as_ticked (tick st set (done_flag flags) (soft_flag flags))))).station
      go true = (refl, same)
      go false =
          ticked_stands (tick st set (done_flag flags) (soft_flag flags)) (tick_in rows s set (done_flag flags) (soft_flag flags))
          (tick_refines rows s I.stored set small (done_flag flags) (soft_flag flags)) (answer_below rows s set (done_flag flags) (soft_flag flags) refl)

  made_stands : (O : Offered) (r : OfferMade) → OfferIs rows s r O
      → (offer_reply (made_on r b).answer ≡ some (after_offer st O).reply) × StandsFor (made_on r b).block (after_offer st O).station
  made_stands (accepted st' t) r (v, e, S') = rw v (refl, stepped_stands r.state st' e S')
  made_stands (no_offer why) r (v, e) = rw (v, numbered why, (named_back why).0, (named_back why).1) (refl, same)

  offer_on : (B d : ℕ) → offer_block b B d ≡ made_on (offer_made rows s B d) b
  unfolding offer_block
  offer_on B d = ap (λ x. offer_decoded x b B d) (block_promises.decode_encode rows s I)

  offer_stands : (B d : ℕ) → Short (offer_call B d)
      → (reply_on b (offer_call B d) ≡ some (step st (offer_call B d)).reply) × StandsFor (block_on b (offer_call B d)) (step st (offer_call B d)).station
  offer_stands B d (small, h) =
      subst (λ (o : Out OfferAnswer). (offer_reply o.answer ≡ some (step st (offer_call B d)).reply) × StandsFor o.block (step st (offer_call B d)).station) (sym (offer_on B d))
      (made_stands (offer st B d) (offer_made rows s B d) (offer_refines rows s B d I.stored small h))

  call_stands : (c : Call) → Short c → (reply_on b c ≡ some (step st c).reply) × StandsFor (block_on b c) (step st c).station
  call_stands (tick_call set flags) h = tick_stands set flags h
  call_stands (offer_call B d) h = offer_stands B d h

pub step_stands : (b : List ℕ) (st : Station) (c : Call) → Short c → StandsFor b st → (reply_on b c ≡ some (step st c).reply) × StandsFor (block_on b c) (step st c).station
step_stands b st c h H = rw (← H.block_is, ← H.station_is) (call_stands H.rows H.state H.imaged c h)

pub replies_stands : (cs : List Call) (b : List ℕ) (station : Station) → AllShort cs → StandsFor b station → block_replies b cs ≡ replies station cs
replies_stands [] b station h H = refl
replies_stands (c ∷ cs) b station (h, hs) H =
    let (r, H') = step_stands b station c h H in
    ap₂ with_reply r (replies_stands cs (block_on b c) (step station c).station hs H')

pub after_stands : (cs : List Call) (b : List ℕ) (station : Station) → AllShort cs → StandsFor b station → StandsFor (block_after b cs) (after station cs)
after_stands [] b station h H = H
after_stands (c ∷ cs) b station (h, hs) H = after_stands cs (block_on b c) (step station c).station hs (step_stands b station c h H).1

-- any bytes that decode accepts hold a station of document 01's conditions
pub accepted_stands : (b : List ℕ) → Bytes b → is_some (decoded_of b) ≡ true → (station : Station) × (is_image station ≡ true) × StandsFor b station
accepted_stands b bytes ok = go (decoded_of b) refl ok
  where
    go : (x : Option Decoded) → decoded_of b ≡ x → is_some x ≡ true → (station : Station) × (is_image station ≡ true) × StandsFor b station
    go None decoded ok = absurd (let z : ◌≡◌ {A = ℕ} 0 1 = cc in omega arith)
    go (Some x) decoded ok =
        let (is, imaged) = block_promises.decode_only b bytes x.rows x.state decoded in (
          station_of x.rows x.state,
          imaged.stored.image,
          record { rows = x.rows; state = x.state; imaged = imaged; block_is = sym is; station_is = refl },
        )
