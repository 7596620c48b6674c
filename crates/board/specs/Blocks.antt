-- The exported functions on byte lists: the block is decoded, the step is taken, its state is written back, or its table to an output; a refusal leaves all as it was. Assumes nothing.
use Rattle.std.specs.Prelude.{ℕ, cond, List, eqb, length, Option, Some, None, unwrap_or, Result, Ok, Err}
use Rattle.rules.specs.Calls.{done_flag, other_flag, soft_flag}
use Rattle.rules.specs.File.{Reading, Writing, read, read_as, scan, unread, write}
use Rattle.rules.specs.Refusals.{not_image, number, unknown_flag}
use Rattle.refusal.specs.Refusals.{number_of}
use Rattle.refusal.specs.declared.Refusal.{Refusal}
use Rattle.table.specs.Answers.{output_after, scan_row, written_of}
use Rattle.table.specs.Memory.{rows_of}
use Rattle.state.specs.Fresh.{rows_for, fresh_in}
use Rattle.state.specs.declared.State.{State}
use Rattle.dispatch.specs.Steps.{Ticked, tick_in}
use Rattle.offer.specs.Steps.{OfferMade, offer_made}
use Rattle.block.specs.Layout.{image_of, written_on}
use Rattle.block.specs.Places.{block_bytes}
use Rattle.block.specs.Tests.{decoded_of}
use Rattle.block.specs.declared.Decoded.{Decoded}
use Rattle.board.specs.declared.OfferAnswer.{OfferAnswer}
use Rattle.board.specs.declared.PlanAnswer.{PlanAnswer}
use Rattle.board.specs.declared.TableAnswer.{TableAnswer}
use Rattle.board.specs.declared.TickAnswer.{TickAnswer}
use Rattle.board.specs.Numbers.{done_plan, refused_offer, refused_plan, refused_table, refused_tick, stepped_tick, taken_offer, written_table}

-- what a function answers, and the block after it; of the table read back, the output
pub record Out (A : Type 0) : Type 0 where
  pub answer : A
  pub block : List ℕ

-- this answer, and this block
abbrev pub giving : {A : Type 0} → A → List ℕ → Out A
giving a b = record { answer = a; block = b }

-- planning: 11 for the length only, then the file

-- an accepted file leaves the image of its fresh state; row: the one that a refusal is about
abbrev pub planned_on : List ℕ → Option ℕ → Reading → Out PlanAnswer
planned_on b row (read_as ps) = giving done_plan (image_of (rows_for ps) (fresh_in (rows_for ps).table.n))
planned_on b row (unread why from size) = giving (refused_plan (number why) (unwrap_or row 0) from size) b

-- the whole of planning
unfoldable pub plan_block : List ℕ → List ℕ → Out PlanAnswer
plan_block b file = cond (eqb (length b) block_bytes) (planned_on b (scan_row (scan 16 0 file)) (read file)) (giving (refused_plan (number not_image) 0 0 0) b)

-- the tick: 20, then 11

-- a tick leaves the state after it
abbrev pub ticked_on : Ticked → List ℕ → Out TickAnswer
ticked_on r b = giving (stepped_tick r.answer) (written_on b r.state)

-- a block that is no image is refused 11
abbrev pub tick_decoded : Option Decoded → List ℕ → ℕ → ℕ → Out TickAnswer
tick_decoded (Some x) b set flags = ticked_on (tick_in x.rows x.state set (done_flag flags) (soft_flag flags)) b
tick_decoded None b set flags = giving (refused_tick (number not_image)) b

-- the whole tick: the flags first
unfoldable pub tick_block : List ℕ → ℕ → ℕ → Out TickAnswer
tick_block b set flags = cond (other_flag flags) (giving (refused_tick (number unknown_flag)) b) (tick_decoded (decoded_of b) b set flags)

-- the offer: 11, then 15, 16, 17, 18

-- an accepted offer leaves the state after it
abbrev pub offered_on : Result ℕ Refusal → State → List ℕ → Out OfferAnswer
offered_on (Ok t) s b = giving (taken_offer t) (written_on b s)
offered_on (Err why) s b = giving (refused_offer (number_of why)) b

-- the same of what the dispatcher gives
abbrev pub made_on : OfferMade → List ℕ → Out OfferAnswer
made_on r b = offered_on r.offered r.state b

-- a block that is no image is refused 11
abbrev pub offer_decoded : Option Decoded → List ℕ → ℕ → ℕ → Out OfferAnswer
offer_decoded (Some x) b B d = made_on (offer_made x.rows x.state B d) b
offer_decoded None b B d = giving (refused_offer (number not_image)) b

-- the whole offer
unfoldable pub offer_block : List ℕ → ℕ → ℕ → Out OfferAnswer
offer_block b B d = offer_decoded (decoded_of b) b B d

-- the table read back: 11, then 5 to 10 and 22, then 19

-- a table that is written leaves its file at the front of the output, a refused one the output as it was
abbrev pub writing_on : Writing → List ℕ → Out TableAnswer
writing_on w out = giving (written_table (written_of w)) (output_after out w)

-- a block that is no image is refused 11
abbrev pub table_decoded : Option Decoded → List ℕ → Out TableAnswer
table_decoded (Some x) out = writing_on (write (rows_of x.rows.table) out) out
table_decoded None out = giving (refused_table (number not_image)) out

-- the whole of it
unfoldable pub table_block : List ℕ → List ℕ → Out TableAnswer
table_block b out = table_decoded (decoded_of b) out
