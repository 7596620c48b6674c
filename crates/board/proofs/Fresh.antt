-- The block that planning writes holds the fresh station of the table. Assumes nothing.
use Prim.Native.Nat.{ℕ, ◌≤◌}
use mathlib.Core.List.{List, map}
use mathlib.Core.Path.{◌≡◌, refl}
use lib.ListN.{length}
use Rattle.rules.specs.Bound.{PlannedRow, plan, planned, promotion}
use Rattle.rules.specs.File.{read, read_as}
use Rattle.rules.specs.Lists.{All}
use Rattle.rules.specs.Station.{fresh_station}
use Rattle.rules.specs.Tables.{Bytes, RowNarrow}
use Rattle.rules.proofs.Results.{table_promises}
use Rattle.rules.proofs.Scan.{file_narrow}
use Rattle.table.proofs.Places.{length_fill}
use Rattle.state.specs.Fresh.{rows_for, fresh_in}
use Rattle.state.proofs.PlannedRows.{planned_fresh}
use Rattle.block.specs.Layout.{Long, image_of}
use Rattle.board.proofs.Standing.{StandsFor}

module _ (file : List ℕ) (bytes : Bytes file) (ps : List PlannedRow) (is_read : read file ≡ read_as ps) where
  -- the table that was read has this plan and at most 16 rows, and its numbers have the widths of the file
  planned_narrow : (plan (map (λ p. p.row) ps) ≡ planned ps) × (length ps ≤ 16) × All RowNarrow (map (λ p. p.row) ps)
  planned_narrow =
      let rs = map (λ p. p.row) ps in
      let accepted = (table_promises.read_iff file bytes ps).0 is_read in
      ((table_promises.planned_iff rs ps).1 accepted.plan_is, accepted.few, file_narrow rs (rw accepted.bytes_are at bytes))

  pub planned_rows_lem : plan (map (λ p. p.row) ps) ≡ planned ps
  planned_rows_lem = planned_narrow.0

  long : Long (rows_for ps) (fresh_in (rows_for ps).table.n)
  unfolding fresh_in
  long = record {
    c_long = length_fill 16 (map (λ r. r.C) (map (λ p. p.row) ps));
    d_long = length_fill 16 (map (λ r. r.D) (map (λ p. p.row) ps));
    t_long = length_fill 16 (map (λ r. r.T) (map (λ p. p.row) ps));
    u_long = length_fill 16 (map (λ p. promotion p.row p.R) ps);
    rank_long = length_fill 16 (map (λ r. r.rank) (map (λ p. p.row) ps));
    m_long = length_fill 16 (map (λ r. r.M) (map (λ p. p.row) ps));
    run_long = refl;
    stamp_long = refl;
    budget_long = refl;
    used_long = refl;
    ticket_long = refl;
  }

  pub fresh_stands : StandsFor (image_of (rows_for ps) (fresh_in (rows_for ps).table.n)) (fresh_station ps)
  fresh_stands =
      let (plan_is, few, narrow) = planned_narrow in
      let (station_is, stored) = planned_fresh ps few plan_is narrow in
      record {
        rows = rows_for ps;
        state = fresh_in (rows_for ps).table.n;
        imaged = record { stored = stored; long = long };
        block_is = refl;
        station_is = station_is;
      }
