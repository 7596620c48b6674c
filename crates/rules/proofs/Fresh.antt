-- A planned table's fresh station meets the invariant. Assumes nothing.
use Prim.Native.Nat.{suc, zero-le, ℕ, ◌+◌, ◌-◌, ◌≤◌}
use mathlib.Core.Bool.{false≢true}
use mathlib.Core.List.{List, [], map, ◌∷◌}
use mathlib.Core.Path.{ap, refl, ◌≡◌}
use native.Mathlib.Omega.{arith}
use Rattle.rules.specs.Lists.{All, total}
use Rattle.rules.specs.Rows.{Row, deadline}
use Rattle.rules.specs.Bound.{Plan, PlannedRow, most, plan, planned, unplanned}
use Rattle.rules.specs.Tables.{Bounds, Planned, RowOk}
use Rattle.rules.specs.Station.{OnFresh, Slot, Station, fresh_slot, fresh_station, rows_of}
use Rattle.rules.proofs.Demand.{demand, entire, most_closed}
use Rattle.rules.proofs.Facts.{AllRuns, Good, closed_not_open}
use Rattle.rules.proofs.Hard.{AllSafe, FromBounds, no_one}
use Rattle.rules.proofs.Plans.{OnPlan, on_plan, rows_in}
use Rattle.rules.proofs.Tick.{Inv}

fresh_good : (p : PlannedRow) → RowOk p.row → p.row.C ≤ p.R → p.R ≤ deadline p.row → Good (fresh_slot p)
fresh_good p ok c l = record { C_pos = ok.C_pos; U_le = omega arith; D_le = ok.D_le; age_le = omega arith }

-- the time that a fresh row has from its promotion
fresh_time : (p : PlannedRow) → p.R ≤ deadline p.row → deadline p.row - (fresh_slot p).U ≡ p.R
fresh_time p l = omega arith

record Started (dem b : ℕ → ℕ) (i : ℕ) (ss : List Slot) : Type 0 where
  good : All Good ss
  runs : AllRuns no_one i ss
  plan : FromBounds b ss
  safe : AllSafe no_one i dem ss

-- dem is what the rows above ask, b what they are planned to ask
fresh_started : (above : List Row) (i : ℕ) (dem b : ℕ → ℕ) → ((w : ℕ) → dem w ≤ total (λ j. most j w) above) → ((w : ℕ) → b w ≡ total (λ j. most j w) above)
    → (ps : List PlannedRow) → All RowOk (rows_in ps) → Bounds above ps → Started dem b i (map fresh_slot ps)
fresh_started above i dem b hd hb [] ok s = record { good = tt; runs = tt; plan = tt; safe = tt }
fresh_started above i dem b hd hb (p ∷ ps) (ok, oks) (S, l, Ss) =
    let in_d : p.R ≤ deadline p.row = omega arith in
    let G = fresh_good p ok (omega (arith, S.solves)) in_d in
    let rest = fresh_started (p.row ∷ above) (suc i) (λ w. dem w + demand entire (fresh_slot p) w) (λ w. b w + most p.row w)
    (λ w. omega (arith, hd w, most_closed (fresh_slot p) G w)) (λ w. omega (arith, hb w)) ps oks Ss in
    record {
      good = (G, rest.good);
      runs = (record { others = λ q r e. absurd (closed_not_open e); at_most = λ r e. absurd (closed_not_open e) }, rest.runs);
      plan = (rw (fresh_time p in_d) (omega (arith, hb p.R, S.solves)), rest.plan);
      safe = (
        record { if_ran = λ q. absurd (false≢true q); if_low = λ q. record { v = p.R; within = omega arith; enough = omega (arith, hd p.R, S.solves) }; if_up = λ q. absurd (false≢true q) },
        rest.safe,
      );
    }

pub fresh_inv : (ps : List PlannedRow) → All RowOk (rows_in ps) → Bounds [] ps → Inv (fresh_station ps)
fresh_inv ps ok s =
    let S = fresh_started [] 0 (λ w. 0) (λ w. 0) (λ w. zero-le) (λ w. refl) ps ok s in
    record { good = S.good; runs = S.runs; plan = S.plan; safe = S.safe }

pub fresh_rows : (ps : List PlannedRow) → rows_of (map fresh_slot ps) ≡ rows_in ps
fresh_rows [] = refl
fresh_rows (p ∷ ps) = ap (λ rs. p.row ∷ rs) (fresh_rows ps)

-- what is said of a plan's rows that passed 6 to 10 and 22 is said of its fresh station
pub on_fresh : (P : Station → Type 0) (rs : List Row) → ((ps : List PlannedRow) → Planned rs ps → P (fresh_station ps)) → OnFresh P (plan rs)
on_fresh P rs h = go (plan rs) (on_plan rs)
  where
    go : (p : Plan) → OnPlan (Planned rs) p → OnFresh P p
    go (planned ps) x = h ps x
    go (unplanned x) y = tt
