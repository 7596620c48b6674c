-- The checks 6 to 9 and 21 of rows, a row at a time; and what rows that pass them are. Assumes nothing.
use Prim.Native.Nat.{ℕ, zero, suc, ◌+◌, ◌-◌, ◌≤◌, ◌<◌}
use mathlib.Core.Path.{◌≡◌, refl, sym, ap, ◌∙◌}
use mathlib.Core.Bool.{Bool, true, false, cond, ◌||◌}
use mathlib.Core.List.{List, []}
use mathlib.Core.Option.{Option, none, some, map}
use native.Mathlib.Numerals.{add-one}
use native.Mathlib.Omega.{arith}
use lib.Dec.{leb, ltb, eqb}
use borrow.Author.Tests.{eqb-false, ltb-false}
use Rattle.std.specs.Prelude.{Ok, Err}
use Rattle.rules.specs.Lists.{or_else}
use Rattle.rules.specs.Refusals as rules
use Rattle.rules.specs.Refusals.{M_zero, Refusal, at_row, C_zero, C_over_D, D_over_T, bad_rank}
use Rattle.rules.specs.Rows.{Row, used, row_fault}
use Rattle.rules.specs.File.{fields_fault, tag_fault, zero_margin}
use Rattle.rules.specs.Tables.{RowOk}
use Rattle.refusal.specs.declared.Refusal as code
use Rattle.table.specs.Memory.{indexed, table_row, above_of, field_at, fields_of, Sound}
use Rattle.table.specs.Answers.{field_checked, row_passes, rows_pass}
use Rattle.table.specs.declared.row.FileRows.{FileRows}

-- what the checks say from the row at a position on
abbrev pub fault_from : FileRows → ℕ → Option rules.Refused
fault_from rows i = fields_fault rows.table.n (above_of rows.table i) i (indexed (field_at rows) i (rows.table.n - i))

pub fault_start : (rows : FileRows) → fields_fault rows.table.n [] 0 (fields_of rows) ≡ fault_from rows 0
fault_start rows =
    let left : rows.table.n ≡ rows.table.n - 0 = omega arith in
    ap (λ (n : ℕ). fields_fault rows.table.n [] 0 (indexed (field_at rows) 0 n)) left

-- what they say of that row
abbrev fault_at : FileRows → ℕ → Option Refusal
fault_at rows i = tag_fault rows.table.n (above_of rows.table i) (field_at rows i)

fault_next : (rows : FileRows) (i : ℕ) → i < rows.table.n → fault_from rows i ≡ or_else (map (λ why. at_row why i) (fault_at rows i)) (fault_from rows (i + 1))
fault_next rows i h =
    let left : rows.table.n - i ≡ suc (rows.table.n - suc i) = omega arith in
    ap (λ (n : ℕ). fields_fault rows.table.n (above_of rows.table i) i (indexed (field_at rows) i n)) left
    ∙ ap (λ (k : ℕ). or_else (map (λ why. at_row why i) (fault_at rows i)) (fault_from rows k)) (sym (add-one i))

passed_none : (o : Option Refusal) (i : ℕ) (x : Option rules.Refused) → row_passes o ≡ Ok tt → or_else (map (λ why. at_row why i) o) x ≡ x
passed_none none i x e = refl
passed_none (some why) i x e = cc

failed_some : (o : Option Refusal) (i : ℕ) (x : Option rules.Refused) {why : code.Refusal} → row_passes o ≡ Err why
    → rows_pass (or_else (map (λ w. at_row w i) o) x) ≡ Err (record { why = why; row = i })
failed_some none i x e = cc
failed_some (some w) i x e = cc

module _ (rows : FileRows) (i : ℕ) (more : i < rows.table.n) where
  pub row_passed : field_checked rows i ≡ Ok tt → fault_from rows i ≡ fault_from rows (i + 1)
  row_passed e = fault_next rows i more ∙ passed_none (fault_at rows i) i (fault_from rows (i + 1)) e

  pub row_failed : {why : code.Refusal} → field_checked rows i ≡ Err why → rows_pass (fault_from rows i) ≡ Err (record { why = why; row = i })
  row_failed e = ap rows_pass (fault_next rows i more) ∙ failed_some (fault_at rows i) i (fault_from rows (i + 1)) e

pub fault_end : (rows : FileRows) (i : ℕ) → rows.table.n ≤ i → fault_from rows i ≡ none
fault_end rows i h =
    let left : rows.table.n - i ≡ 0 = omega arith in
    ap (λ (n : ℕ). fields_fault rows.table.n (above_of rows.table i) i (indexed (field_at rows) i n)) left

-- the first of two checks, then the second
pub then_asked : (o z : Option Refusal) → row_passes o ≡ Ok tt → row_passes (or_else o z) ≡ row_passes z
then_asked none z e = refl
then_asked (some why) z e = cc

pub not_asked : (o z : Option Refusal) {why : code.Refusal} → row_passes o ≡ Err why → row_passes (or_else o z) ≡ Err why
not_asked none z e = cc
not_asked (some why) z e = e

-- a row with no fault has 1 ≤ C ≤ D ≤ T
tests_none : (zero_c over_d over_t rank : Bool) → cond zero_c (some C_zero) (cond over_d (some C_over_D) (cond over_t (some D_over_T) (cond rank (some bad_rank) none))) ≡ none → (zero_c ≡ false) × (over_d ≡ false) × (over_t ≡ false)
tests_none true over_d over_t rank e = cc
tests_none false true over_t rank e = cc
tests_none false false true rank e = cc
tests_none false false false rank e = (refl, refl, refl)

none_ok : (n : ℕ) (earlier : List Row) (r : Row) → row_fault n earlier r ≡ none → RowOk r
none_ok n earlier r e =
    let h = tests_none (eqb r.C 0) (ltb r.D r.C) (ltb r.T r.D) (leb n r.rank || used r.rank earlier) e in
    let positive = eqb-false r.C 0 h.0 in
    record { C_pos = omega arith; C_le = ltb-false r.D r.C h.1; D_le = ltb-false r.T r.D h.2 }

or_else_none : (o : Option Refusal) (i : ℕ) (x : Option rules.Refused) → or_else (map (λ why. at_row why i) o) x ≡ none → (o ≡ none) × (x ≡ none)
or_else_none none i x e = (refl, e)
or_else_none (some why) i x e = cc

none_tag : (o : Option Refusal) (is_zero : Bool) → or_else o (cond is_zero (some M_zero) none) ≡ none → o ≡ none
none_tag none is_zero e = refl
none_tag (some why) is_zero e = e

none_from : (rows : FileRows) → fault_from rows 0 ≡ none → (i : ℕ) → i ≤ rows.table.n → fault_from rows i ≡ none
none_from rows e zero h = e
none_from rows e (suc i) h =
    let at_i = sym (fault_next rows i (omega arith)) ∙ none_from rows e i (omega arith) in
    ap (fault_from rows) (sym (add-one i)) ∙ (or_else_none (fault_at rows i) i (fault_from rows (i + 1)) at_i).1

-- what passes the checks is sound
pub none_sound : (rows : FileRows) → fields_fault rows.table.n [] 0 (fields_of rows) ≡ none → Sound rows.table rows.table.n
none_sound rows e i h =
    let tb = rows.table in
    let at_i = sym (fault_next rows i h) ∙ none_from rows (sym (fault_start rows) ∙ e) i (omega arith) in
    none_ok tb.n (above_of tb i) (table_row tb i)
    (none_tag (row_fault tb.n (above_of tb i) (table_row tb i)) (zero_margin (field_at rows i)) (or_else_none (fault_at rows i) i (fault_from rows (i + 1)) at_i).0)
