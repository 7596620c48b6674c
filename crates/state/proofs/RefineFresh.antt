-- The fresh state in memory is the rules' fresh station, and may be stored. Assumes nothing.
use Rattle.std.proofs.Common.{◌≡◌, ℕ, zero, suc, ◌^◌, ◌<◌, ◌≤◌, true, List, [], map, length, replicate, sym, refl, ap, ◌∙◌, true≢false, arith, le-ltb, lt-ltb}
use mathlib.Core.List.{map-map}
use Rattle.rules.specs.Lists.{All}
use Rattle.rules.specs.Rows.{Row}
use Rattle.rules.specs.Bound.{PlannedRow, plan, planned}
use Rattle.rules.specs.Station.{fresh_slot, fresh_station, nobody}
use Rattle.rules.specs.Image.{is_image}
use Rattle.rules.proofs.ImageIs.{fresh_image}
use Rattle.rules.proofs.Tables.{tables}
use Rattle.table.specs.Memory.{table_row}
use Rattle.state.specs.declared.Rows.{Rows}
use Rattle.state.specs.Meaning.{Kept, Laid, Stored, entry, fresh_at, rows_from, slot_at, slots_of, station_of}
use Rattle.state.specs.Fresh.{fresh_in}
use Rattle.state.proofs.Agrees.{station_is}
use Rattle.state.proofs.Bits.{bit_known, bit_zero, known_lt}
use Rattle.state.proofs.Positions.{length_rows, map_rows, rows_all, same_rows}

blank_at : (k i : ℕ) → entry (replicate k 0) i ≡ 0
blank_at zero i = refl
blank_at (suc k) zero = refl
blank_at (suc k) (suc i) = blank_at k i

module _ (rows : Rows) (ps : List PlannedRow) (L : Laid rows ps) where
  slots_fresh : slots_of rows (fresh_in rows.table.n) ≡ map fresh_slot ps
  unfolding fresh_in
  slots_fresh =
      same_rows (fresh_at rows) (slot_at rows (fresh_in rows.table.n)) 0 rows.table.n (λ j l h.
      rw (bit_known rows.table.n j L.table.few, lt-ltb j rows.table.n (omega arith), bit_zero j))
      ∙ L.plan_is

  is_fresh : station_of rows (fresh_in rows.table.n) ≡ fresh_station ps
  unfolding fresh_in rows_from
  is_fresh = station_is rows (fresh_in rows.table.n) 0 (map fresh_slot ps) [] 0 nobody refl slots_fresh refl refl refl

  fresh_kept : Kept rows (fresh_in rows.table.n)
  unfolding fresh_in
  fresh_kept = record {
    table = L.table;
    times = record {
      clock_lt = omega arith;
      rested_lt = known_lt rows.table.n;
      stamps = refl;
      stamp_lt = λ i. rw (blank_at 16 i) (omega arith);
      rested_past = λ i h. bit_known rows.table.n i L.table.few ∙ le-ltb i rows.table.n h;
      stamp_past = λ i h. blank_at 16 i;
      young = λ i h e. absurd (true≢false (sym (bit_known rows.table.n i L.table.few ∙ lt-ltb i rows.table.n h) ∙ e));
      stamp_blank = λ i e. blank_at 16 i;
    };
    jobs = record { open_lt = omega arith; runs = refl; open_past = λ i h. bit_zero i; run_blank = λ i e. blank_at 16 i };
    queue = record { few = omega arith; budgets = refl; useds = refl; tickets = refl; past = λ j h. (blank_at 8 j, blank_at 8 j, blank_at 8 j) };
    last_below = tt;
  }

  module _ (rs : List Row) (is_plan : plan rs ≡ planned ps) where
    rows_are : rs ≡ rows_from (table_row rows.table) 0 rows.table.n
    rows_are =
        sym ((tables.planned_iff rs ps).0 is_plan).rows_are
        ∙ sym (map-map (λ x. x.row) fresh_slot ps)
        ∙ ap (map (λ x. x.row)) (sym L.plan_is)
        ∙ map_rows (λ x. x.row) (fresh_at rows) 0 rows.table.n

    fresh_is_image : is_image (fresh_station ps) ≡ true
    fresh_is_image =
        let few : length rs ≤ 16 = rw (rows_are, length_rows (table_row rows.table) 0 rows.table.n) L.table.few in
        let thin : All (λ r. r.T < 2 ^ 16) rs = rw rows_are (rows_all (λ r. r.T < 2 ^ 16) (table_row rows.table) 0 rows.table.n (λ j l h. L.T_lt j)) in
        rw is_plan at (fresh_image rs few thin)

    pub fresh_refines : (station_of rows (fresh_in rows.table.n) ≡ fresh_station ps) × Stored rows (fresh_in rows.table.n)
    fresh_refines = (is_fresh, record { kept = fresh_kept; image = rw is_fresh fresh_is_image })
