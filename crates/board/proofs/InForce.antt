-- The table that a block holds is that of the station it stands for; no call changes it, and so the file that was planned comes back. Assumes nothing.
use Prim.Native.Nat.{ℕ, zero, suc, ◌<◌, ◌≤◌}
use mathlib.Core.List.{List, ◌∷◌, ◌++◌, map}
use mathlib.Core.Path.{◌≡◌, refl, ap, ◌∙◌}
use native.Mathlib.Omega.{arith}
use borrow.Author.Tests.{le-ltb, lt-ltb}
use lib.ListN.{drop, length, length-map}
use Rattle.rules.specs.Bound.{PlannedRow}
use Rattle.rules.specs.Calls.{AllShort, Call}
use Rattle.rules.specs.File.{put, read, read_as, write}
use Rattle.rules.specs.Refusals.{number, small_output}
use Rattle.rules.specs.Rows.{Row}
use Rattle.rules.specs.Station.{Station, fresh_station, rows_of}
use Rattle.rules.specs.Tables.{Accepted, Bytes}
use Rattle.rules.proofs.Fresh.{fresh_rows}
use Rattle.rules.proofs.Results.{table_promises}
use Rattle.rules.proofs.Rows.{rows_after}
use Rattle.table.specs.Memory.{indexed, table_row}
use Rattle.state.specs.Meaning.{rows_from, slot_at, station_of}
use Rattle.state.specs.declared.Rows.{Rows}
use Rattle.state.specs.declared.State.{State}
use Rattle.board.specs.Blocks.{giving, table_block, writing_on}
use Rattle.board.specs.Numbers.{refused_table}
use Rattle.board.specs.Promises.{block_after}
use Rattle.board.proofs.Standing.{StandsFor, after_stands}
use Rattle.board.proofs.Refusals.{decoded}

rows_are : (rows : Rows) (s : State) (i n : ℕ) → indexed (table_row rows.table) i n ≡ rows_of (rows_from (slot_at rows s) i n)
unfolding rows_from
rows_are rows s i zero = refl
rows_are rows s i (suc n) = ap (λ rs. table_row rows.table i ∷ rs) (rows_are rows s (suc i) n)

pub table_stands : {b : List ℕ} {st : Station} → StandsFor b st → (out : List ℕ) → table_block b out ≡ writing_on (write (rows_of st.slots) out) out
unfolding table_block station_of
table_stands H out =
    rw (decoded H, ← H.station_is) (ap (λ rs. writing_on (write rs out) out) (rows_are H.rows H.state 0 H.rows.table.n))

module _ (file : List ℕ) (bytes : Bytes file) (ps : List PlannedRow) (is_read : read file ≡ read_as ps) where
  abbrev rs : List Row
  rs = map (λ p. p.row) ps

  accepted : Accepted file ps
  accepted = (table_promises.read_iff file bytes ps).0 is_read

  -- what is left of the writer's checks is 19
  write_file : (out : List ℕ) → write rs out ≡ put file out
  unfolding write
  write_file out =
      rw (le-ltb 16 (length rs) (omega (arith, length-map ps (λ p. p.row), accepted.few)), (table_promises.planned_iff rs ps).1 accepted.plan_is, ← accepted.bytes_are)

  module _ {b : List ℕ} (H : StandsFor b (fresh_station ps)) (before : List Call) (short : AllShort before) (out : List ℕ) where
    table_after : table_block (block_after b before) out ≡ writing_on (put file out) out
    table_after =
        table_stands (after_stands before b (fresh_station ps) short H) out
        ∙ ap (λ l. writing_on (write l out) out) (rows_after rs before (fresh_station ps) (fresh_rows ps))
        ∙ ap (λ w. writing_on w out) (write_file out)

    pub table_back : length file ≤ length out
        → table_block (block_after b before) out ≡ giving (record { size = length file; refusal = 0 }) (file ++ drop (length file) out)
    table_back h = table_after ∙ rw (le-ltb (length out) (length file) h) refl

    pub table_19 : length out < length file → table_block (block_after b before) out ≡ giving (refused_table (number small_output)) out
    table_19 h = table_after ∙ rw (lt-ltb (length out) (length file) h) refl
