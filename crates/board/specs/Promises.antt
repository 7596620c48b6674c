-- What a kernel may rely on, over blocks: calls on the block that planning left, each given the block that the last one left. Assumes nothing.
-- A block is a list of bytes, and everything is counted from the answers of the exported functions (specs/Blocks.antt).
use Rattle.std.specs.Prelude.{ℕ, ◌%◌, ◌^◌, ◌≤◌, ◌<◌, true, false, cond, not, ◌&&◌, List, [], ◌∷◌, ◌++◌, map, ◌⊎◌, ◌≡◌, leb, drop, length, take, is_some}
use Rattle.std.proofs.Math.Option.{Option, none, some}
use Rattle.std.proofs.Math.ListN.{get_elem?}
use Rattle.rules.specs.Bound.{PlannedRow, unplanned}
use Rattle.rules.specs.Calls.{AllShort, Call, Reply, Reported, Short, acceptances, answered, count, done_flag, last_release, names_row, names_ticket, offer_call, other_flag, releases, replies, returns, soft_flag, step, tick_call, ticks, took}
use Rattle.rules.specs.File.{Field, field_bytes, plan_fields, read, read_as, scan, unread, whole}
use Rattle.rules.specs.Promise.{NotesAre, rested_by}
use Rattle.rules.specs.Refusals.{Refused, not_image, number, small_output, unknown_flag}
use Rattle.rules.specs.Rows.{Row, deadline}
use Rattle.rules.specs.Image.{is_image}
use Rattle.rules.specs.Station.{Station, fresh_station}
use Rattle.rules.specs.Tables.{Bytes}
use Rattle.rules.specs.Tick.{Answer, bit, closed_as, done, firm_job, hard_job, opens}
use Rattle.answer.specs.Numbers.{row_number}
use Rattle.block.specs.Places.{block_bytes}
use Rattle.block.specs.Tests.{decoded_of}
use Rattle.board.specs.Numbers.{refused_table}
use Rattle.board.specs.Blocks.{giving, offer_block, plan_block, table_block, tick_block}
use Rattle.board.specs.Replies.{offer_reply, tick_reply}

-- CALLS ON A BLOCK, one after the other

-- a reply, if there is one, and those after it
abbrev pub with_reply : Option Reply → List Reply → List Reply
with_reply none rs = rs
with_reply (some r) rs = r ∷ rs

-- the reply to a call
abbrev pub reply_on : List ℕ → Call → Option Reply
reply_on b (tick_call set flags) = tick_reply (tick_block b set flags).answer
reply_on b (offer_call B d) = offer_reply (offer_block b B d).answer

-- the block after it
abbrev pub block_on : List ℕ → Call → List ℕ
block_on b (tick_call set flags) = (tick_block b set flags).block
block_on b (offer_call B d) = (offer_block b B d).block

-- the replies to calls, in order; an answer that is no reply adds none
abbrev pub block_replies : List ℕ → List Call → List Reply
block_replies b [] = []
block_replies b (c ∷ cs) = with_reply (reply_on b c) (block_replies (block_on b c) cs)

-- the block after all of them
abbrev pub block_after : List ℕ → List Call → List ℕ
block_after b [] = b
block_after b (c ∷ cs) = block_after (block_on b c) cs

-- DEMAND 1, of any bytes at all: where the answer is a refusal, every byte of the block, or of the output, is as before the call
pub record Untouched : Type 0 where
  pub plan_refused : (b file : List ℕ) → ((plan_block b file).answer.refusal ≡ 0 → ⊥) → (plan_block b file).block ≡ b
  pub tick_refused : (b : List ℕ) (set flags : ℕ) → ((tick_block b set flags).answer.refusal ≡ 0 → ⊥) → (tick_block b set flags).block ≡ b
  pub offer_refused : (b : List ℕ) (B d : ℕ) → ((offer_block b B d).answer.refusal ≡ 0 → ⊥) → (offer_block b B d).block ≡ b
  pub table_refused : (b out : List ℕ) → ((table_block b out).answer.refusal ≡ 0 → ⊥) → (table_block b out).block ≡ out

-- DEMAND 2, of any bytes that decode accepts: they are a state of document 01's conditions, the replies are those of its dispatcher, and a
-- tick notes and does what `noted` says of it
abbrev pub AnyBlock : Type 0
AnyBlock = (b : List ℕ) → Bytes b → is_some (decoded_of b) ≡ true
    → (st : Station) × (is_image st ≡ true) × ((cs : List Call) → AllShort cs → block_replies b cs ≡ replies st cs)
    × ((set flags : ℕ) (x : Answer) → Short (tick_call set flags) → reply_on b (tick_call set flags) ≡ some (answered x)
    → NotesAre st set (done_flag flags) (soft_flag flags) (record { station = (step st (tick_call set flags)).station; answer = x }))

-- THE TICK, of any bytes: 20 by the flags alone, then 11 where decode refuses the bytes; nothing else refuses one
abbrev pub TickNumbers : Type 0
TickNumbers = (b : List ℕ) (set flags : ℕ)
    → (tick_block b set flags).answer.refusal ≡ cond (other_flag flags) (number unknown_flag) (cond (is_some (decoded_of b)) 0 (number not_image))

-- accepted, or refused with 10, 22, 11 or 19
abbrev pub TableNumber : ℕ → Type 0
TableNumber refusal = (refusal ≡ 0) ⊎ ((refusal ≡ 10) ⊎ ((refusal ≡ 22) ⊎ ((refusal ≡ 11) ⊎ (refusal ≡ 19))))

-- THE TABLE READ BACK, of any bytes: the table of every image passes 5 to 9
abbrev pub TableNumbers : Type 0
TableNumbers = (b out : List ℕ) → Bytes b → TableNumber (table_block b out).answer.refusal

-- PLANNING, where 6 to 10, 21 or 22 refuse a row: the number, the row, and where the bytes of its field stand
abbrev pub RowNamed : Type 0
RowNamed = (b file : List ℕ) → length b ≡ block_bytes → Bytes file → (fs : List Field) → scan 16 0 file ≡ whole fs → (x : Refused) → plan_fields fs ≡ unplanned x
    → (f : Field) × (get_elem? fs x.row ≡ some f) × (from : ℕ) × (size : ℕ)
    × (read file ≡ unread x.why from size)
    × ((plan_block b file).answer ≡ record { from = from; size = size; refusal = number x.why; row = row_number x.row })
    × (take size (drop from file) ≡ field_bytes f)

-- DEMAND 3, a hard job. A tick released the row r at position k and answered x; b is the block after it. Whatever calls follow:
pub record HardOnBlock (k : ℕ) (r : Row) (b : List ℕ) (x : Answer) : Type 0 where
  -- when D − M ticks have been stepped from the release on, C of their answers have named the row, or a later one reported the job done
  pub in_time : (later : List Call) → AllShort later → deadline r ≤ ticks (answered x ∷ block_replies b later)
      → (r.C ≤ count (names_row k) (answered x ∷ block_replies b later)) ⊎ Reported (hard_job k done) (block_replies b later)
  -- up to the next release of the row, no more than C name it
  pub never_more : (later : List Call) → AllShort later → releases k later (block_replies b later) ≡ 0
      → count (names_row k) (answered x ∷ block_replies b later) ≤ r.C

-- DEMAND 3, an upload. An offer of budget B and deadline d was accepted with the ticket t; b is the block after it. Whatever calls follow:
pub record UploadOnBlock (B d : ℕ) (b : List ℕ) (t : ℕ) : Type 0 where
  -- when d ticks have been stepped from the acceptance on, B of their answers have named the ticket, or one reported the upload done
  pub in_time : (later : List Call) → AllShort later → d ≤ ticks (block_replies b later)
      → (B ≤ count (names_ticket t) (block_replies b later)) ⊎ Reported (firm_job t done) (block_replies b later)
  -- up to the next acceptance that returns the ticket, no more than B name it
  pub never_more : (later : List Call) → AllShort later → returns t (block_replies b later) ≡ 0 → count (names_ticket t) (block_replies b later) ≤ B

-- Of the block b that planning left of a file with the table ps, after any calls whose numbers have the widths that C hands in:
pub record OnBlocks (file : List ℕ) (ps : List PlannedRow) (b : List ℕ) : Type 0 where
  -- no call is refused as no image
  pub tick_not_11 : (before : List Call) → AllShort before → (set flags : ℕ) → (tick_block (block_after b before) set flags).answer.refusal ≡ 11 → ⊥
  pub offer_not_11 : (before : List Call) → AllShort before → (B d : ℕ) → (offer_block (block_after b before) B d).answer.refusal ≡ 11 → ⊥
  -- DEMAND 2: the replies are those of document 01's dispatcher
  pub replies_are : (cs : List Call) → AllShort cs → block_replies b cs ≡ replies (fresh_station ps) cs
  -- DEMAND 3: a tick that is answered keeps its promise to every row that it releases, one whose bit is set and not noted ..
  pub hard_jobs : (before : List Call) → AllShort before → (set flags k : ℕ) (r : Row) (x : Answer) → Short (tick_call set flags)
      → get_elem? (map (λ p. p.row) ps) k ≡ some r → reply_on (block_after b before) (tick_call set flags) ≡ some (answered x) → opens set x.notes k ≡ true
      → HardOnBlock k r (block_on (block_after b before) (tick_call set flags)) x
  -- .. and an offer that is accepted to its upload
  pub uploads : (before : List Call) → AllShort before → (B d t : ℕ) → Short (offer_call B d)
      → reply_on (block_after b before) (offer_call B d) ≡ some (took t)
      → UploadOnBlock B d (block_on (block_after b before) (offer_call B d)) t
  -- a job is reported done only if the done flag says so, and is not noted
  pub done_told : (before : List Call) → AllShort before → (set flags : ℕ) (x : Answer) → Short (tick_call set flags)
      → reply_on (block_after b before) (tick_call set flags) ≡ some (answered x) → closed_as x.closing ≡ some done
      → (done_flag flags ≡ true) × (x.notes.none_ran ≡ false)
  -- NOTES: 12 lists the set bits of rows that the table doesn't have, and 14 those of rows whose last release is fewer than T ticks ago
  pub unknown_noted : (before : List Call) → AllShort before → (set flags k : ℕ) (x : Answer) → Short (tick_call set flags)
      → reply_on (block_after b before) (tick_call set flags) ≡ some (answered x) → bit x.notes.unknown k ≡ (bit set k && leb (length ps) k)
  pub not_ready_noted : (before : List Call) → AllShort before → (set flags k : ℕ) (r : Row) (x : Answer) → Short (tick_call set flags)
      → get_elem? (map (λ p. p.row) ps) k ≡ some r → reply_on (block_after b before) (tick_call set flags) ≡ some (answered x)
      → bit x.notes.not_ready k ≡ (bit set k && not (rested_by (ticks (block_replies b before)) (last_release k 0 none before (block_replies b before)) r))
  -- the clock in an answer is the number of ticks stepped before it, and a ticket the number of acceptances, modulo 2^32
  pub clock_is : (before : List Call) → AllShort before → (set flags : ℕ) (x : Answer) → Short (tick_call set flags)
      → reply_on (block_after b before) (tick_call set flags) ≡ some (answered x) → x.at ≡ ticks (block_replies b before) % 2 ^ 32
  pub ticket_is : (before : List Call) → AllShort before → (B d t : ℕ) → Short (offer_call B d)
      → reply_on (block_after b before) (offer_call B d) ≡ some (took t) → t ≡ acceptances (block_replies b before) % 2 ^ 32
  -- the table comes back as the file, byte for byte, and bytes after it stay; an output that is shorter is refused 19
  pub table_back : (before : List Call) → AllShort before → (out : List ℕ) → length file ≤ length out
      → table_block (block_after b before) out ≡ giving (record { size = length file; refusal = 0 }) (file ++ drop (length file) out)
  pub table_19 : (before : List Call) → AllShort before → (out : List ℕ) → length out < length file
      → table_block (block_after b before) out ≡ giving (refused_table (number small_output)) out

-- ALL OF IT: where planning answers 0, the file is a table's, and its block keeps the promises
abbrev pub Promises : Type 0
Promises = (b file : List ℕ) → Bytes file → (plan_block b file).answer.refusal ≡ 0
    → (ps : List PlannedRow) × (read file ≡ read_as ps) × OnBlocks file ps (plan_block b file).block
