-- The plan of a table, a row at a time: what is planned so far, in memory, and the plan of the rows that are left. Assumes nothing.
use Prim.Native.Nat.{ℕ, suc, ◌+◌, ◌-◌, ◌≤◌, ◌<◌}
use mathlib.Core.Path.{◌≡◌, refl, sym, ap, ◌∙◌}
use mathlib.Core.Bool.{Bool, true, false, cond}
use mathlib.Core.List.{List, [], ◌∷◌, ◌++◌, map, append_assoc, append-nil}
use native.Mathlib.Numerals.{add-one}
use native.Mathlib.Omega.{arith}
use lib.Dec.{ltb}
use lib.ListN.{length, set, length-append}
use borrow.Author.Tests.{le-ltb, lt-ltb, ltb-false, ltb-true}
use Rattle.std.specs.Prelude.{Result, Ok, Err}
use Rattle.rules.specs.Refusals.{R_M_over_D, at_row, passes_d}
use Rattle.rules.specs.Rows.{Row}
use Rattle.rules.specs.Bound.{Bound, bound, none_to_d, onto, response, promotion, PlannedRow, planned, unplanned, with_row, plan_rows}
use Rattle.rules.specs.Bound as rules
use Rattle.table.specs.Memory.{indexed, fill, table_row, rows_of, above_of}
use Rattle.table.specs.Answers.{bounded_of, planning_of, refused_of, row_bound}
use Rattle.table.specs.declared.Table.{Table}
use Rattle.table.specs.declared.Refused.{Refused}
use Rattle.table.specs.declared.bounds.Bound as code
use Rattle.table.proofs.Places.{column_next}

-- planned rows before a plan
abbrev pub prepend : List PlannedRow → rules.Plan → rules.Plan
prepend ps (planned qs) = planned (ps ++ qs)
prepend ps (unplanned x) = unplanned x

prepend_row : (ps : List PlannedRow) (r : PlannedRow) (p : rules.Plan) → prepend ps (onto r p) ≡ prepend (ps ++ (r ∷ [])) p
prepend_row ps r (planned qs) = ap planned (sym (append_assoc ps (r ∷ []) qs))
prepend_row ps r (unplanned x) = refl

-- a bound with the margin fits D, or 22 refuses it
module _ (r : Row) (i R k : ℕ) (p : rules.Plan) where
  row_fits : R + r.M ≤ r.D → with_row r i (bound R k) p ≡ onto (record { row = r; R = R; rounds = k }) p
  row_fits h = ap (λ (b : Bool). cond b (unplanned (at_row R_M_over_D i)) (onto (record { row = r; R = R; rounds = k }) p)) (le-ltb r.D (R + r.M) h)

  row_over : r.D < R + r.M → with_row r i (bound R k) p ≡ unplanned (at_row R_M_over_D i)
  row_over h = ap (λ (b : Bool). cond b (unplanned (at_row R_M_over_D i)) (onto (record { row = r; R = R; rounds = k }) p)) (lt-ltb r.D (R + r.M) h)

-- the plan of the rows from a position on
abbrev pub plan_from : Table → ℕ → rules.Plan
plan_from tb i = plan_rows (above_of tb i) i (indexed (table_row tb) i (tb.n - i))

plan_next : (tb : Table) (i : ℕ) → i < tb.n → plan_from tb i ≡ with_row (table_row tb i) i (response (above_of tb i) (table_row tb i)) (plan_from tb (i + 1))
unfolding plan_rows
plan_next tb i h =
    let left : tb.n - i ≡ suc (tb.n - suc i) = omega arith in
    ap (λ (n : ℕ). plan_rows (above_of tb i) i (indexed (table_row tb) i n)) left
    ∙ ap (λ (k : ℕ). with_row (table_row tb i) i (response (above_of tb i) (table_row tb i)) (plan_from tb k)) (sym (add-one i))

-- a bound by whether it passes D with the margin
abbrev margined : (i w k : ℕ) → Bool → Result code.Bound Refused
margined i w k over = cond over (Err (refused_of (at_row R_M_over_D i))) (Ok (record { r = w; rounds = k }))

-- the first i rows are planned, and stand in memory
pub record SoFar (tb : Table) (i : ℕ) (r u rounds : List ℕ) : Type 0 where
  pub rows : List PlannedRow
  pub count : length rows ≡ i
  pub r_is : r ≡ fill 16 (map (λ p. p.R) rows)
  pub u_is : u ≡ fill 16 (map (λ p. promotion p.row p.R) rows)
  pub rounds_is : rounds ≡ fill 16 (map (λ p. p.rounds) rows)
  pub plan_is : plan_rows [] 0 (rows_of tb) ≡ prepend rows (plan_from tb i)

prepend_none : (p : rules.Plan) → p ≡ prepend [] p
prepend_none (planned qs) = refl
prepend_none (unplanned x) = refl

pub none_planned : (tb : Table) → SoFar tb 0 (fill 16 []) (fill 16 []) (fill 16 [])
none_planned tb =
    let left : tb.n ≡ tb.n - 0 = omega arith in
    record {
      rows = [];
      count = refl;
      r_is = refl;
      u_is = refl;
      rounds_is = refl;
      plan_is = ap (λ (n : ℕ). plan_rows [] 0 (indexed (table_row tb) 0 n)) left ∙ prepend_none (plan_from tb 0);
    }

module _ (tb : Table) (i : ℕ) (r u rounds : List ℕ) (so : SoFar tb i r u rounds) where
  -- the plan from row i on, by its bound
  plan_turn : i < tb.n → {b : Bound} → response (above_of tb i) (table_row tb i) ≡ b → plan_rows [] 0 (rows_of tb) ≡ prepend so.rows (with_row (table_row tb i) i b (plan_from tb (i + 1)))
  plan_turn more e = so.plan_is ∙ ap (prepend so.rows) (plan_next tb i more ∙ ap (λ (b : Bound). with_row (table_row tb i) i b (plan_from tb (i + 1))) e)

  pub one_more_planned : i < tb.n → tb.n ≤ 16 → {w k x : ℕ} → response (above_of tb i) (table_row tb i) ≡ bound w k → w + (table_row tb i).M ≤ (table_row tb i).D
      → x ≡ promotion (table_row tb i) w → SoFar tb (i + 1) (set r i w) (set u i x) (set rounds i k)
  one_more_planned more few {w} {k} {x} e fits later =
      let p : PlannedRow = record { row = table_row tb i; R = w; rounds = k } in
      record {
        rows = so.rows ++ (p ∷ []);
        count = length-append so.rows (p ∷ []) ∙ ap (λ (n : ℕ). n + 1) so.count;
        r_is = ap (λ (l : List ℕ). set l i w) so.r_is ∙ column_next (λ q. q.R) so.rows p i w so.count (omega arith) refl;
        u_is = ap (λ (l : List ℕ). set l i x) so.u_is ∙ column_next (λ q. promotion q.row q.R) so.rows p i x so.count (omega arith) later;
        rounds_is = ap (λ (l : List ℕ). set l i k) so.rounds_is ∙ column_next (λ q. q.rounds) so.rows p i k so.count (omega arith) refl;
        plan_is = plan_turn more e ∙ ap (prepend so.rows) (row_fits (table_row tb i) i w k (plan_from tb (i + 1)) fits) ∙ prepend_row so.rows p (plan_from tb (i + 1));
      }

  -- the bound of row i is refused and leaves its margin
  pub bound_fails : i < tb.n → {x : Refused} → row_bound tb i ≡ Err x → planning_of (plan_rows [] 0 (rows_of tb)) ≡ Err x
  bound_fails more {x} e = go (response (above_of tb i) (table_row tb i)) refl e
    where
      go : (b : Bound) → response (above_of tb i) (table_row tb i) ≡ b → bounded_of (table_row tb i) i b ≡ Err x → planning_of (plan_rows [] 0 (rows_of tb)) ≡ Err x
      go none_to_d h e = let same : refused_of (at_row passes_d i) ≡ x = cc in ap planning_of (plan_turn more h) ∙ ap Err same
      go (bound w k) h e = margin (ltb (table_row tb i).D (w + (table_row tb i).M)) refl e
        where
          margin : (over : Bool) → ltb (table_row tb i).D (w + (table_row tb i).M) ≡ over
              → margined i w k over ≡ Err x → planning_of (plan_rows [] 0 (rows_of tb)) ≡ Err x
          margin true q e =
              let same : refused_of (at_row R_M_over_D i) ≡ x = cc in
              ap planning_of (plan_turn more h ∙ ap (prepend so.rows) (row_over (table_row tb i) i w k (plan_from tb (i + 1)) (ltb-true _ _ q))) ∙ ap Err same
          margin false q e = cc

  pub all_planned : tb.n ≤ i → Ok (record { r = r; u = u; rounds = rounds }) ≡ planning_of (plan_rows [] 0 (rows_of tb))
  unfolding plan_rows
  all_planned done =
      let left : tb.n - i ≡ 0 = omega arith in
      let whole : plan_rows [] 0 (rows_of tb) ≡ planned so.rows =
      so.plan_is ∙ ap (λ (n : ℕ). prepend so.rows (plan_rows (above_of tb i) i (indexed (table_row tb) i n))) left ∙ ap planned (append-nil so.rows)
      in
      ap Ok (λ k. record { r = so.r_is k; u = so.u_is k; rounds = so.rounds_is k }) ∙ sym (ap planning_of whole)

-- what a bound that stands says of the rules'
pub bounded : (tb : Table) (i : ℕ) {b : code.Bound} → row_bound tb i ≡ Ok b → (response (above_of tb i) (table_row tb i) ≡ bound b.r b.rounds) × (b.r + (table_row tb i).M ≤ (table_row tb i).D)
bounded tb i {b} e = go (response (above_of tb i) (table_row tb i)) refl e
  where
    go : (x : Bound) → response (above_of tb i) (table_row tb i) ≡ x → bounded_of (table_row tb i) i x ≡ Ok b
        → (response (above_of tb i) (table_row tb i) ≡ bound b.r b.rounds) × (b.r + (table_row tb i).M ≤ (table_row tb i).D)
    go none_to_d h e = cc
    go (bound w k) h e = margin (ltb (table_row tb i).D (w + (table_row tb i).M)) refl e
      where
        margin : (over : Bool) → ltb (table_row tb i).D (w + (table_row tb i).M) ≡ over
            → margined i w k over ≡ Ok b
            → (response (above_of tb i) (table_row tb i) ≡ bound b.r b.rounds) × (b.r + (table_row tb i).M ≤ (table_row tb i).D)
        margin true q e = cc
        margin false q e =
            let same : ◌≡◌ {A = code.Bound} (record { r = w; rounds = k }) b = cc in
            (h ∙ ap (λ (x : code.Bound). bound x.r x.rounds) same, omega (arith, ap (λ (x : code.Bound). x.r) same, ltb-false _ _ q))
