-- What a refusal leaves, what refuses a tick, and that a block that holds a state is never refused as none. Assumes nothing.
use Prim.Native.Nat.{ℕ, ◌+◌}
use mathlib.Core.Bool.{Bool, true, false, cond}
use mathlib.Core.List.{List}
use mathlib.Core.Path.{◌≡◌, refl}
use native.Mathlib.Omega.{arith}
use lib.Dec.{eqb, leb, ltb}
use lib.ListN.{length}
use Rattle.rules.specs.Calls.{other_flag}
use Rattle.rules.specs.File.{Reading, Writing, read, read_as, scan, unread, unwritten, write, written}
use Rattle.rules.specs.Refusals.{not_image, number, unknown_flag}
use Rattle.rules.specs.Station.{Station}
use Rattle.std.specs.Prelude.{Option, Some, None, is_some, Result, Ok, Err}
use Rattle.refusal.specs.declared.Refusal.{Refusal}
use Rattle.refusal.specs.declared.Refusal.TheVariants.{BZero, DUnderB, QueueFull, RoomShort}
use Rattle.table.specs.Answers.{scan_row}
use Rattle.table.specs.Memory.{rows_of}
use Rattle.state.specs.declared.Rows.{Rows}
use Rattle.state.specs.declared.State.{State}
use Rattle.offer.specs.Steps.{claims_of, offer_made, refused_by, ticket_for, unrun_of}
use Rattle.block.specs.Places.{block_bytes}
use Rattle.block.specs.Tests.{decoded_as, decoded_of}
use Rattle.block.specs.declared.Decoded.{Decoded}
use Rattle.block.proofs.Results.{block_promises}
use Rattle.board.specs.Blocks.{giving, made_on, offer_block, offer_decoded, offered_on, plan_block, planned_on, table_block, table_decoded, tick_block, tick_decoded, writing_on}
use Rattle.board.specs.Numbers.{refused_plan, refused_tick}
use Rattle.board.specs.Promises.{TickNumbers, Untouched}
use Rattle.board.proofs.Standing.{StandsFor}

-- a refusal leaves the block, or the output, as it was

plan_refused : (b file : List ℕ) → ((plan_block b file).answer.refusal ≡ 0 → ⊥) → (plan_block b file).block ≡ b
unfolding plan_block
plan_refused b file = go (eqb (length b) block_bytes) (read file)
  where
    go : (f : Bool) (R : Reading) → ((cond f (planned_on b (scan_row (scan 16 0 file)) R) (giving (refused_plan (number not_image) 0 0 0) b)).answer.refusal ≡ 0 → ⊥)
        → (cond f (planned_on b (scan_row (scan 16 0 file)) R) (giving (refused_plan (number not_image) 0 0 0) b)).block ≡ b
    go true (read_as ps) h = absurd (h refl)
    go true (unread why from size) h = refl
    go false R h = refl

tick_refused : (b : List ℕ) (set flags : ℕ) → ((tick_block b set flags).answer.refusal ≡ 0 → ⊥) → (tick_block b set flags).block ≡ b
unfolding tick_block
tick_refused b set flags = go (other_flag flags) (decoded_of b)
  where
    go : (f : Bool) (x : Option Decoded)
        → ((cond f (giving (refused_tick (number unknown_flag)) b) (tick_decoded x b set flags)).answer.refusal ≡ 0 → ⊥)
        → (cond f (giving (refused_tick (number unknown_flag)) b) (tick_decoded x b set flags)).block ≡ b
    go true x h = refl
    go false (Some x) h = absurd (h refl)
    go false None h = refl

offered_refused : (o : Result ℕ Refusal) (s : State) (b : List ℕ) → ((offered_on o s b).answer.refusal ≡ 0 → ⊥) → (offered_on o s b).block ≡ b
offered_refused (Ok t) s b h = absurd (h refl)
offered_refused (Err why) s b h = refl

offer_refused : (b : List ℕ) (B d : ℕ) → ((offer_block b B d).answer.refusal ≡ 0 → ⊥) → (offer_block b B d).block ≡ b
unfolding offer_block
offer_refused b B d = go (decoded_of b)
  where
    go : (x : Option Decoded) → ((offer_decoded x b B d).answer.refusal ≡ 0 → ⊥) → (offer_decoded x b B d).block ≡ b
    go (Some x) h = let made = offer_made x.rows x.state B d in offered_refused made.offered made.state b h
    go None h = refl

table_refused : (b out : List ℕ) → ((table_block b out).answer.refusal ≡ 0 → ⊥) → (table_block b out).block ≡ out
unfolding table_block
table_refused b out = go (decoded_of b)
  where
    written_refused : (w : Writing) → ((writing_on w out).answer.refusal ≡ 0 → ⊥) → (writing_on w out).block ≡ out
    written_refused (written size after) h = absurd (h refl)
    written_refused (unwritten why) h = refl

    go : (x : Option Decoded) → ((table_decoded x out).answer.refusal ≡ 0 → ⊥) → (table_decoded x out).block ≡ out
    go (Some x) h = written_refused (write (rows_of x.rows.table) out) h
    go None h = refl

pub untouched : Untouched
untouched = record { plan_refused = plan_refused; tick_refused = tick_refused; offer_refused = offer_refused; table_refused = table_refused }

-- a tick is refused by its flags, or by its block

pub tick_numbers_lem : TickNumbers
unfolding tick_block
tick_numbers_lem b set flags = go (other_flag flags) (decoded_of b)
  where
    go : (f : Bool) (x : Option Decoded)
        → (cond f (giving (refused_tick (number unknown_flag)) b) (tick_decoded x b set flags)).answer.refusal
        ≡ cond f (number unknown_flag) (cond (is_some x) 0 (number not_image))
    go true x = refl
    go false (Some x) = refl
    go false None = refl

-- a block that holds a state is not refused with 11

offered_not_11 : (rows : Rows) (s : State) (B d : ℕ) (b : List ℕ) → (made_on (offer_made rows s B d) b).answer.refusal ≡ 11 → ⊥
unfolding offer_made
offered_not_11 rows s B d b = go (eqb B 0) (ltb d B) (leb 8 s.count) (leb (claims_of rows s d + (B + unrun_of s)) d)
  where
    go : (x y z w : Bool)
        → (made_on (cond x (refused_by BZero s) (cond y (refused_by DUnderB s) (cond z (refused_by QueueFull s) (cond w (ticket_for s B) (refused_by RoomShort s))))) b).answer.refusal ≡ 11 → ⊥
    go true y z w e = omega arith
    go false true z w e = omega arith
    go false false true w e = omega arith
    go false false false true e = omega arith
    go false false false false e = omega arith

module _ {b : List ℕ} {st : Station} (H : StandsFor b st) where
  pub decoded : decoded_of b ≡ decoded_as H.rows H.state
  decoded = rw (← H.block_is) (block_promises.decode_encode H.rows H.state H.imaged)

  pub tick_not_11 : (set flags : ℕ) → (tick_block b set flags).answer.refusal ≡ 11 → ⊥
  unfolding tick_block
  tick_not_11 set flags = rw decoded (go (other_flag flags))
    where
      go : (f : Bool) → (cond f (giving (refused_tick (number unknown_flag)) b) (tick_decoded (decoded_as H.rows H.state) b set flags)).answer.refusal ≡ 11 → ⊥
      go true e = omega arith
      go false e = omega arith

  pub offer_not_11 : (B d : ℕ) → (offer_block b B d).answer.refusal ≡ 11 → ⊥
  unfolding offer_block
  offer_not_11 B d = rw decoded (offered_not_11 H.rows H.state B d b)
