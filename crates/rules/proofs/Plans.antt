-- A table is planned exactly when it passes 6 to 10 and 22, and the bounds of rows depend on nothing below them. Assumes nothing.
use Prim.Native.Nat.{ℕ, suc, ◌+◌}
use mathlib.Core.Bool.{Bool, cond, false, true}
use mathlib.Core.List.{List, [], ◌∷◌, ◌++◌, map}
use mathlib.Core.Logic.{◌↔◌}
use mathlib.Core.Option.{Option, none, some}
use mathlib.Core.Path.{◌≡◌, refl, ap}
use native.Mathlib.Omega.{arith}
use borrow.Author.Tests.{le-ltb, ltb-false}
use lib.Dec.{ltb}
use lib.ListN.{length, take}
use Rattle.rules.specs.Lists.{All, unless}
use Rattle.rules.specs.Refusals.{Refused, R_M_over_D, at_row}
use Rattle.rules.specs.Rows.{Row, table_fault}
use Rattle.rules.specs.Bound.{Bound, bound, none_to_d, response, PlannedRow, Plan, planned, unplanned, onto, with_row, plan_rows, plan}
use Rattle.rules.specs.Tables.{RowOk, Bounds, BoundIs, Planned}
use Rattle.rules.proofs.Bounds.{response_is, solved_response}
use Rattle.rules.proofs.Faults.{table_fault_iff}

-- the rows that a plan is of
abbrev pub rows_in : List PlannedRow → List Row
rows_in ps = map (λ p. p.row) ps

-- what is said of a plan, where there is one
abbrev pub OnPlan : (List PlannedRow → Type 0) → Plan → Type 0
OnPlan P (planned ps) = P ps
OnPlan P (unplanned x) = Unit {0}

pub on_planned : (P : List PlannedRow → Type 0) (p : Plan) → OnPlan P p → (ps : List PlannedRow) → p ≡ planned ps → P ps
on_planned P p h ps e = rw e at h

pub unplanned_not : (x : Refused) (ps : List PlannedRow) → unplanned x ≡ planned ps → ⊥
unplanned_not x ps e = let z : ◌≡◌ {A = ℕ} 0 1 = cc in omega arith

pub planned_same : (ps qs : List PlannedRow) → planned ps ≡ planned qs → ps ≡ qs
planned_same ps qs e = cc

-- checks 10 and 22

rows_bounds : (above : List Row) → All RowOk above → (i : ℕ) (rs : List Row) → All RowOk rs
    → OnPlan (λ ps. (rows_in ps ≡ rs) × Bounds above ps) (plan_rows above i rs)
unfolding plan_rows
rows_bounds above oka i [] oks = (refl, tt)
rows_bounds above oka i (r ∷ rs) (ok, oks) =
    go (response above r) (response_is above r (ok, oka)) (plan_rows (r ∷ above) (suc i) rs) (rows_bounds (r ∷ above) (ok, oka) (suc i) rs oks)
  where
    go : (o : Bound) → BoundIs above r o → (p : Plan) → OnPlan (λ ps. (rows_in ps ≡ rs) × Bounds (r ∷ above) ps) p
        → OnPlan (λ ps. (rows_in ps ≡ r ∷ rs) × Bounds above ps) (with_row r i o p)
    go none_to_d s p h = tt
    go (bound R m) s p h = margin (ltb r.D (R + r.M)) refl p h
      where
        margin : (c : Bool) → ltb r.D (R + r.M) ≡ c → (p : Plan) → OnPlan (λ ps. (rows_in ps ≡ rs) × Bounds (r ∷ above) ps) p
            → OnPlan (λ ps. (rows_in ps ≡ r ∷ rs) × Bounds above ps) (cond c (unplanned (at_row R_M_over_D i)) (onto (record { row = r; R = R; rounds = m }) p))
        margin true q p h = tt
        margin false q (unplanned x) h = tt
        margin false q (planned ps) (e, b) = (ap {B = List Row} (λ l. r ∷ l) e, (s, ltb-false r.D (R + r.M) q, b))

bounds_rows : (above : List Row) → All RowOk above → (i : ℕ) (ps : List PlannedRow) → All RowOk (rows_in ps) → Bounds above ps
    → plan_rows above i (rows_in ps) ≡ planned ps
unfolding plan_rows
bounds_rows above oka i [] oks b = refl
bounds_rows above oka i (p ∷ ps) (ok, oks) (s, l, b) =
    rw (
      solved_response above p.row (ok, oka) p.R p.rounds s,
      bounds_rows (p.row ∷ above) (ok, oka) (suc i) ps oks b,
      le-ltb p.row.D (p.R + p.row.M) l,
    ) refl

rows_prefix : (above : List Row) (i : ℕ) (rs below : List Row) (ps qs : List PlannedRow)
    → plan_rows above i rs ≡ planned ps → plan_rows above i (rs ++ below) ≡ planned qs → take (length rs) qs ≡ ps
unfolding plan_rows
rows_prefix above i [] below ps qs e e' = planned_same [] ps e
rows_prefix above i (r ∷ rs) below ps qs e e' =
    go (response above r) (plan_rows (r ∷ above) (suc i) rs) (plan_rows (r ∷ above) (suc i) (rs ++ below)) (rows_prefix (r ∷ above) (suc i) rs below) e e'
  where
    go : (o : Bound) (p q : Plan) → ((ps qs : List PlannedRow) → p ≡ planned ps → q ≡ planned qs → take (length rs) qs ≡ ps)
        → with_row r i o p ≡ planned ps → with_row r i o q ≡ planned qs → take (suc (length rs)) qs ≡ ps
    go none_to_d p q ih e e' = absurd (unplanned_not _ ps e)
    go (bound R m) p q ih e e' = margin (ltb r.D (R + r.M)) p q ih e e'
      where
        first : PlannedRow
        first = record { row = r; R = R; rounds = m }

        margin : (c : Bool) (p q : Plan) → ((ps qs : List PlannedRow) → p ≡ planned ps → q ≡ planned qs → take (length rs) qs ≡ ps)
            → cond c (unplanned (at_row R_M_over_D i)) (onto first p) ≡ planned ps → cond c (unplanned (at_row R_M_over_D i)) (onto first q) ≡ planned qs
            → take (suc (length rs)) qs ≡ ps
        margin true p q ih e e' = absurd (unplanned_not _ ps e)
        margin false (unplanned x) q ih e e' = absurd (unplanned_not x ps e)
        margin false (planned ps₀) (unplanned x) ih e e' = absurd (unplanned_not x qs e')
        margin false (planned ps₀) (planned qs₀) ih e e' =
            rw (← (planned_same (first ∷ ps₀) ps e), ← (planned_same (first ∷ qs₀) qs e'))
            (ap {B = List PlannedRow} (λ l. first ∷ l) (ih ps₀ qs₀ refl refl))

-- a table that is planned has passed 6 to 9, and 10 and 22 are then asked of all its rows
pub plan_rows_lem : (rs : List Row) (ps : List PlannedRow) → plan rs ≡ planned ps → (table_fault rs ≡ none) × (plan_rows [] 0 rs ≡ planned ps)
unfolding plan
plan_rows_lem rs ps = go (table_fault rs) (plan_rows [] 0 rs)
  where
    go : (o : Option Refused) (p : Plan) → unless o unplanned p ≡ planned ps → (o ≡ none) × (p ≡ planned ps)
    go none p e = (refl, e)
    go (some x) p e = absurd (unplanned_not x ps e)

plan_passed : (rs : List Row) (ps : List PlannedRow) → plan rs ≡ planned ps → Planned rs ps
plan_passed rs ps e =
    let (none_found, rows) = plan_rows_lem rs ps e in
    let (oks, ranks) = (table_fault_iff rs).0 none_found in
    let (rows_are, bounds) = on_planned (λ qs. (rows_in qs ≡ rs) × Bounds [] qs) (plan_rows [] 0 rs) (rows_bounds [] tt 0 rs oks) ps rows in
    record { rows_are = rows_are; rows_ok = oks; ranks_ok = ranks; bounds = bounds }

passed_plan : (rs : List Row) (ps : List PlannedRow) → Planned rs ps → plan rs ≡ planned ps
unfolding plan
passed_plan rs ps h =
    rw ((table_fault_iff rs).1 (h.rows_ok, h.ranks_ok), ← h.rows_are)
    (bounds_rows [] tt 0 ps (rw (← h.rows_are) at h.rows_ok) h.bounds)

pub planned_iff : (rs : List Row) (ps : List PlannedRow) → (plan rs ≡ planned ps) ↔ Planned rs ps
planned_iff rs ps = (plan_passed rs ps, passed_plan rs ps)

-- what every plan has passed
pub on_plan : (rs : List Row) → OnPlan (Planned rs) (plan rs)
on_plan rs = go (plan rs) refl
  where
    go : (p : Plan) → plan rs ≡ p → OnPlan (Planned rs) p
    go (planned ps) e = plan_passed rs ps e
    go (unplanned x) e = tt

pub nothing_below : (rs below : List Row) (ps qs : List PlannedRow) → plan rs ≡ planned ps → plan (rs ++ below) ≡ planned qs → take (length rs) qs ≡ ps
nothing_below rs below ps qs e e' = rows_prefix [] 0 rs below ps qs (plan_rows_lem rs ps e).1 (plan_rows_lem (rs ++ below) qs e').1
