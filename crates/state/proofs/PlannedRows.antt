-- The arrays that planned_rows makes of a plan hold that plan: with the fresh state they are the rules' fresh station. Assumes nothing.
use Rattle.std.proofs.Common.{◌≡◌, ℕ, zero, suc, ◌+◌, ◌^◌, ◌<◌, ◌≤◌, List, [], ◌∷◌, map, length, get_or, sym, refl, ap, ◌∙◌, add-zero, add-suc, suc-add, zero-add, arith, lit<}
use lib.ListN.{get_or-eq_default, get_or-map, length-map}
use Rattle.rules.specs.Bound.{PlannedRow, plan, planned, promotion}
use Rattle.rules.specs.Lists.{All}
use Rattle.rules.specs.Rows.{Row}
use Rattle.rules.specs.Station.{closed, fresh_slot, fresh_station, hold}
use Rattle.rules.specs.Tables.{RowNarrow}
use Rattle.rules.proofs.Walks.{all_imp}
use Rattle.table.specs.Memory.{fill, table_row}
use Rattle.table.proofs.Files.{no_row}
use Rattle.table.proofs.Places.{column_at}
use Rattle.state.specs.declared.Rows.{Rows}
use Rattle.state.specs.Meaning.{Laid, Stored, entry, fresh_at, rows_from, station_of}
use Rattle.state.specs.Fresh.{fresh_in, rows_for}
use Rattle.state.proofs.RefineFresh.{fresh_refines}

-- what stands where there is no row
abbrev no_plan : PlannedRow
no_plan = record { row = no_row; R = 0; rounds = 0 }

module _ {A : Type 0} (none : A) where
  get_or_all : (P : A → Type 0) (l : List A) → P none → All P l → (i : ℕ) → P (get_or l i none)
  get_or_all P [] z p i = z
  get_or_all P (a ∷ l) z (p, ps) zero = p
  get_or_all P (a ∷ l) z (p, ps) (suc i) = get_or_all P l z ps i

  -- a list by position
  rows_are : {B : Type 0} (g : ℕ → B) (h : A → B) (i : ℕ) (l : List A) → ((j : ℕ) → j < length l → g (i + j) ≡ h (get_or l j none)) → rows_from g i (length l) ≡ map h l
  unfolding rows_from
  rows_are g h i [] e = refl
  rows_are g h i (a ∷ l) e =
      rw (← (e 0 (omega arith)), add-zero i, rows_are g h (suc i) l (λ j m. ap g (suc-add i j ∙ sym (add-suc i j)) ∙ e (suc j) (omega arith)))

module _ (ps : List PlannedRow) (few : length ps ≤ 16) where
  abbrev rs : List Row
  rs = map (λ p. p.row) ps

  abbrev rows : Rows
  rows = rows_for ps

  length_rs : length rs ≡ length ps
  length_rs = length-map ps (λ p. p.row)

  field_at : (h : Row → ℕ) → h no_row ≡ 0 → (i : ℕ) → entry (fill 16 (map h rs)) i ≡ h (get_or ps i no_plan).row
  field_at h z i = column_at no_row h rs z (omega (arith, length_rs)) i ∙ ap h (get_or-map (λ p. p.row) ps i no_plan)

  row_at : (i : ℕ) → table_row rows.table i ≡ (get_or ps i no_plan).row
  row_at i = λ k. record {
    C = field_at (λ r. r.C) refl i k;
    D = field_at (λ r. r.D) refl i k;
    T = field_at (λ r. r.T) refl i k;
    rank = field_at (λ r. r.rank) refl i k;
    M = field_at (λ r. r.M) refl i k;
  }

  U_at : (i : ℕ) → entry rows.u i ≡ promotion (get_or ps i no_plan).row (get_or ps i no_plan).R
  U_at i = column_at no_plan (λ p. promotion p.row p.R) ps refl few i

  slot_is : (i : ℕ) → fresh_at rows i ≡ fresh_slot (get_or ps i no_plan)
  slot_is i = λ k. record { row = row_at i k; U = U_at i k; age = hold (row_at i k); job = closed }

  -- nothing past the rows

  none_past : (i : ℕ) → rows.table.n ≤ i → get_or ps i no_plan ≡ no_plan
  none_past i l = get_or-eq_default ps no_plan (omega (arith, length_rs))

  field_past : (h : Row → ℕ) → h no_row ≡ 0 → (i : ℕ) → rows.table.n ≤ i → entry (fill 16 (map h rs)) i ≡ 0
  field_past h z i l = field_at h z i ∙ ap (λ p. h p.row) (none_past i l) ∙ z

  narrow_at : (h : Row → ℕ) (w : ℕ) → h no_row ≡ 0 → 0 < w → All (λ r. h r < w) rs → (i : ℕ) → entry (fill 16 (map h rs)) i < w
  narrow_at h w z pos x i = rw (column_at no_row h rs z (omega (arith, length_rs)) i) (get_or_all no_row (λ r. h r < w) rs (rw z pos) x i)

  -- the arrays hold the plan
  laid : All RowNarrow rs → Laid rows ps
  laid narrow = record {
    table = record {
      few = omega (arith, length_rs);
      rank_lt = narrow_at (λ r. r.rank) (2 ^ 8) refl (lit< tt) (all_imp RowNarrow (λ r. r.rank < 2 ^ 8) (λ r x. x.rank_lt) rs narrow);
      past = λ i l. (
        field_past (λ r. r.C) refl i l,
        field_past (λ r. r.D) refl i l,
        field_past (λ r. r.T) refl i l,
        U_at i ∙ ap (λ p. promotion p.row p.R) (none_past i l),
        field_past (λ r. r.rank) refl i l,
        field_past (λ r. r.M) refl i l,
      );
    };
    T_lt = narrow_at (λ r. r.T) (2 ^ 16) refl (lit< tt) (all_imp RowNarrow (λ r. r.T < 2 ^ 16) (λ r x. x.T_lt) rs narrow);
    plan_is = ap (rows_from (fresh_at rows) 0) length_rs ∙ rows_are no_plan (fresh_at rows) fresh_slot 0 ps (λ j m. ap (fresh_at rows) (zero-add j) ∙ slot_is j);
  }

  -- so with the fresh state they are the fresh station of the plan, and may be stored
  pub planned_fresh : plan rs ≡ planned ps → All RowNarrow rs → (station_of rows (fresh_in rows.table.n) ≡ fresh_station ps) × Stored rows (fresh_in rows.table.n)
  planned_fresh e narrow = fresh_refines rows ps (laid narrow) rs e
