-- What planning comes to, by what is read of the file. Assumes nothing.
use Rattle.std.proofs.Common.{◌≡◌, refl, sym, ap, eq-eqb, Result, Ok, Err, length, List, ℕ, unwrap_or}
use Rattle.rules.specs.File.{Reading, read, read_as, scan, unread}
use Rattle.refusal.specs.Refusals.{number_of}
use Rattle.refusal.proofs.Numbered.{numbered}
use Rattle.table.specs.Answers.{file_read, reading_of, scan_row}
use Rattle.table.specs.declared.FileRefusal.{FileRefusal}
use Rattle.table.specs.declared.PlannedTable.{PlannedTable}
use Rattle.state.specs.Fresh.{fresh_in, planned_rows}
use Rattle.block.specs.Layout.{encoded_on, image_of}
use Rattle.block.specs.Places.{block_bytes}
use Rattle.state.specs.declared.Rows.{Rows}
use Rattle.state.specs.declared.State.{State}
use Rattle.board.specs.declared.PlanAnswer.{PlanAnswer}
use Rattle.board.specs.Blocks.{Out, giving, plan_block, planned_on}
use Rattle.board.specs.Numbers.{done_plan, refused_plan}

module _ (b file : List ℕ) where
  -- a table in memory leaves the image of its fresh state, a refusal the block as it was
  abbrev on_read : Result PlannedTable FileRefusal → Out PlanAnswer
  on_read (Ok x) = giving done_plan (image_of (planned_rows x.table x.plan) (fresh_in x.table.n))
  on_read (Err x) = giving (refused_plan (number_of x.why) (unwrap_or x.row 0) x.part.from x.part.size) b

  pub planned_as_read : length b ≡ block_bytes → (r : Result PlannedTable FileRefusal) → r ≡ file_read file → plan_block b file ≡ on_read r
  unfolding plan_block file_read
  planned_as_read long r e = rw (eq-eqb (length b) block_bytes long, e) (go (read file))
    where
      go : (R : Reading) → planned_on b (scan_row (scan 16 0 file)) R ≡ on_read (reading_of (scan_row (scan 16 0 file)) R)
      go (read_as ps) = refl
      go (unread why from size) = ap (λ n. giving (refused_plan n (unwrap_or (scan_row (scan 16 0 file)) 0) from size) b) (sym (numbered why))

-- a block of the right length is written whole
pub encoded_whole : (b : List ℕ) (rows : Rows) (s : State) → length b ≡ block_bytes → encoded_on b rows s ≡ image_of rows s
unfolding encoded_on
encoded_whole b rows s long = rw (eq-eqb (length b) block_bytes long)
