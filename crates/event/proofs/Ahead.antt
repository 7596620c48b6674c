-- An event that is read lies ahead: its field is not empty, and ends within the events. Assumes nothing.
use Prim.Native.Nat.{ℕ, ◌+◌, ◌≤◌, ◌<◌}
use mathlib.Core.Bool.{Bool, true, false, cond, not}
use mathlib.Core.List.{List}
use mathlib.Core.Option.{none, some}
use mathlib.Core.Path.{◌≡◌, refl, sym, ◌∙◌, subst}
use native.Mathlib.Omega.{arith}
use lib.Dec.{eqb, ltb}
use lib.ListN.{length, drop, length-drop}
use borrow.Author.Tests.{ltb-false}
use Rattle.rules.specs.Lists.{unless}
use Rattle.rules.specs.Refusals.{cut, unknown_flag, wrong_length}
use Rattle.rules.specs.Fields.{BadField, byte, header, to_end, value_fault, word}
use Rattle.rules.specs.Calls.{other_flag, tick_call}
use Rattle.rules.specs.Events.{Event, bad_event, event, no_more, offer_event, offer_tag, read_event, tick_event, tick_tag}
use Rattle.event.specs.Answers.{event_of}
use Rattle.event.specs.declared.BadEvent.{BadEvent}
use Rattle.event.specs.declared.Event as event
use Rattle.std.specs.Prelude.{Option, Some, None, Result, Ok, Err}

-- a call's field has bytes, at most n
abbrev Sized : ℕ → Event → Type 0
Sized n (event call size) = (1 ≤ size) × (size ≤ n)
Sized n no_more = Unit {0}
Sized n (bad_event why size) = Unit {0}

-- a field that fails a check, as an event
abbrev refused_field : BadField → Event
refused_field b = bad_event b.why b.size

value_sized : (s : List ℕ) (n : ℕ) (e : Event) (right short : Bool) → ltb (length s) n ≡ short → (n ≤ length s → Sized (length s) e)
    → Sized (length s) (unless (cond (not right) (header wrong_length) (cond short (to_end cut s) none)) refused_field e)
value_sized s n e false short q h = tt
value_sized s n e true true q h = tt
value_sized s n e true false q h = h (ltb-false (length s) n q)

tick_sized : (s : List ℕ) → 6 ≤ length s → Sized (length s) (tick_event s)
tick_sized s l = go (other_flag (byte s 5))
  where
    go : (b : Bool) → Sized (length s) (cond b (bad_event unknown_flag 6) (event (tick_call (word s 3) (byte s 5)) 6))
    go true = tt
    go false = (omega arith, l)

sized : (s : List ℕ) → Sized (length s) (read_event s)
unfolding read_event
sized s = go (eqb (length s) 0) (ltb (length s) 3) (eqb (byte s 0) tick_tag) (eqb (byte s 0) offer_tag)
  where
    go : (empty short tick offer : Bool)
        → Sized (length s)
        (cond empty no_more
        (unless (cond short (to_end cut s) (value_fault (cond tick (some 3) (cond offer (some 4) none)) false s)) refused_field (cond tick (tick_event s) (offer_event s))))
    go true short tick offer = tt
    go false true tick offer = tt
    go false false true offer = value_sized s 6 (tick_event s) (eqb (word s 1) 3) (ltb (length s) 6) refl (tick_sized s)
    go false false false true = value_sized s 7 (offer_event s) (eqb (word s 1) 4) (ltb (length s) 7) refl (λ l. (omega arith, l))
    go false false false false = tt

-- the place after an event lies ahead of the place at, and within n
abbrev Ahead : ℕ → ℕ → Result (Option event.Event) BadEvent → Type 0
Ahead at n (Ok (Some e)) = (at < e.next) × (e.next ≤ n)
Ahead at n (Ok None) = Unit {0}
Ahead at n (Err bad) = Unit {0}

sized_ahead : (at n m : ℕ) (e : Event) → at + m ≤ n → Sized m e → Ahead at n (event_of at e)
sized_ahead at n m (event call size) l (some_bytes, few) = (omega arith, omega arith)
sized_ahead at n m no_more l h = tt
sized_ahead at n m (bad_event why size) l h = tt

-- the place after an event that was read at a place within s
pub next_ahead : (s : List ℕ) (at : ℕ) {read : Result (Option event.Event) BadEvent} (e : event.Event) → at ≤ length s
    → read ≡ event_of at (read_event (drop at s)) → read ≡ Ok (Some e) → (at < e.next) × (e.next ≤ length s)
next_ahead s at e l reads is =
    subst (Ahead at (length s)) (sym reads ∙ is)
    (sized_ahead at (length s) (length (drop at s)) (read_event (drop at s)) (omega (arith, length-drop at s)) (sized (drop at s)))
