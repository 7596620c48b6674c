-- What the image of a stored state says of its numbers: the rows in order, and every width. Assumes nothing.
use Rattle.std.proofs.Common.{◌≡◌, ℕ, zero, suc, ◌+◌, ◌^◌, ◌<◌, ◌≤◌, Bool, true, false, List, [], ◌∷◌, sym, refl, ◌∙◌, true≢false, mod-lt, arith}
use native.Mathlib.Decide.{dec_le, dec_lt}
use Rattle.rules.specs.Lists.{All}
use Rattle.rules.specs.Station.{Firm, Slot}
use Rattle.rules.specs.Tick.{bit, last_at}
use Rattle.rules.proofs.Facts.{AllRuns, Good, Paid, Runs, TicketsTo}
use Rattle.rules.proofs.Image.{Image}
use Rattle.rules.proofs.ImageIs.{image_iff}
use Rattle.table.specs.Memory.{table_row}
use Rattle.state.specs.declared.Rows.{Rows}
use Rattle.state.specs.declared.State.{State}
use Rattle.state.specs.Meaning.{Stored, entry, firm_at, last_of, rows_from, slot_at, station_of}
use Rattle.state.proofs.Positions.{all_rows, map_rows}

-- beside the widths that the arrays keep
pub record Widths (rows : Rows) (s : State) : Type 0 where
  pub rows_lt : (i : ℕ) → (entry rows.table.c i < 2 ^ 16) × (entry rows.table.d i < 2 ^ 16) × (entry rows.table.t i < 2 ^ 16) × (entry rows.u i < 2 ^ 16) × (entry rows.table.m i < 2 ^ 16)
  pub next_lt : s.next < 2 ^ 32
  pub run_lt : (i : ℕ) → entry s.run i < 2 ^ 16
  pub firms_lt : (j : ℕ) → (entry s.ticket j < 2 ^ 32) × (entry s.budget j < 2 ^ 16) × (entry s.used j < 2 ^ 16)

pub runs_rows : (ran : ℕ → Bool) (g : ℕ → Slot) (i k : ℕ) → AllRuns ran i (rows_from g i k) → (j : ℕ) → i ≤ j → j < i + k → Runs (ran j) (g j)
unfolding rows_from
runs_rows ran g i zero r j l h = absurd (omega arith)
runs_rows ran g i (suc k) (r, rs) j l h = go (dec_le (suc i) j) (λ m. runs_rows ran g (suc i) k rs j m (omega arith))
  where
    go : Dec (suc i ≤ j) → (suc i ≤ j → Runs (ran j) (g j)) → Runs (ran j) (g j)
    go (yes m) ih = ih m
    go (no m) ih = let e : i ≡ j = omega arith in rw (sym e) r

tickets_lt : (next : ℕ) (fs : List Firm) → TicketsTo next fs → All (λ f. f.ticket < 2 ^ 32) fs
tickets_lt next [] T = tt
tickets_lt next (f ∷ fs) (e, T) = (rw e (mod-lt _ (omega arith)), tickets_lt next fs T)

module _ (rows : Rows) (s : State) (S : Stored rows s) where
  pub image_of_lem : Image (station_of rows s)
  image_of_lem = (image_iff (station_of rows s)).0 S.image

  -- the rows

  pub row_good : (i : ℕ) → i < rows.table.n → Good (slot_at rows s i)
  unfolding station_of
  row_good i h = all_rows Good (slot_at rows s) 0 rows.table.n image_of_lem.good i (omega arith) (omega arith)

  pub thin : (i : ℕ) → i < rows.table.n → entry rows.table.t i < 2 ^ 16
  unfolding station_of
  thin i h = all_rows (λ r. r.T < 2 ^ 16) (table_row rows.table) 0 rows.table.n (rw (map_rows (λ x. x.row) (slot_at rows s) 0 rows.table.n) at image_of_lem.table.narrow) i (omega arith) (omega arith)

  pub positive : (i : ℕ) → i < rows.table.n → 1 ≤ entry rows.table.t i
  positive i h = omega (arith, row_good i h)

  pub U_le : (i : ℕ) → i < rows.table.n → entry rows.u i ≤ entry rows.table.t i
  U_le i h = omega (arith, row_good i h)

  -- every width

  row_lt : (i : ℕ) → Dec (i < rows.table.n) → (entry rows.table.c i < 2 ^ 16) × (entry rows.table.d i < 2 ^ 16) × (entry rows.table.t i < 2 ^ 16) × (entry rows.u i < 2 ^ 16) × (entry rows.table.m i < 2 ^ 16)
  row_lt i (yes h) = omega (arith, row_good i h, thin i h)
  row_lt i (no h) = omega (arith, S.kept.table.past i (omega arith))

  run_lt : (i : ℕ) (b : Bool) → bit s.«open» i ≡ b → Dec (i < rows.table.n) → entry s.run i < 2 ^ 16
  unfolding station_of
  run_lt i false e k = omega (arith, S.kept.jobs.run_blank i e)
  run_lt i true e (no h) = absurd (true≢false (sym e ∙ S.kept.jobs.open_past i (omega arith)))
  run_lt i true e (yes h) =
      let r = runs_rows (last_at (last_of s)) (slot_at rows s) 0 rows.table.n image_of_lem.runs i (omega arith) (omega arith) in
      omega (arith, r.at_most (entry s.run i) (rw e), row_lt i (yes h))

  firm_lt : (j : ℕ) → Dec (j < s.count) → (entry s.ticket j < 2 ^ 32) × (entry s.budget j < 2 ^ 16) × (entry s.used j < 2 ^ 16)
  unfolding station_of
  firm_lt j (no h) = omega (arith, S.kept.queue.past j (omega arith))
  firm_lt j (yes h) =
      let p = all_rows Paid (firm_at s) 0 s.count image_of_lem.paid j (omega arith) (omega arith) in
      (all_rows (λ f. f.ticket < 2 ^ 32) (firm_at s) 0 s.count (tickets_lt s.next (rows_from (firm_at s) 0 s.count) image_of_lem.tickets.to_next) j (omega arith) (omega arith), p.2, omega (arith, p))

  pub widths : Widths rows s
  unfolding station_of
  widths = record {
    rows_lt = λ i. row_lt i (dec_lt i rows.table.n);
    next_lt = image_of_lem.tickets.next_lt;
    run_lt = λ i. run_lt i (bit s.«open» i) refl (dec_lt i rows.table.n);
    firms_lt = λ j. firm_lt j (dec_lt j s.count);
  }
