-- What planning in memory says of the rules' plan, and of what is read and written by it. Assumes nothing.
use Prim.Native.Nat.{ℕ, ◌+◌, ◌≤◌, ◌<◌}
use mathlib.Core.Path.{◌≡◌, refl, sym, ap, ◌∙◌}
use mathlib.Core.Bool.{Bool, true, false, cond}
use mathlib.Core.List.{List, [], map}
use mathlib.Core.Option.{Option, none, some}
use native.Mathlib.Omega.{arith}
use lib.Dec.{ltb}
use lib.ListN.{length, drop, take}
use borrow.Author.Tests.{lt-ltb, le-ltb, ltb-false}
use Rattle.std.specs.Prelude.{Ok, Err}
use Rattle.std.specs.Prelude as memory
use Rattle.rules.specs.Lists.{unless}
use Rattle.rules.specs.Refusals as rules
use Rattle.rules.specs.Refusals.{row_17, refusal}
use Rattle.rules.specs.Rows.{Row}
use Rattle.rules.specs.Bound as bounds
use Rattle.rules.specs.Bound.{PlannedRow, planned, unplanned, plan_rows, plan}
use Rattle.rules.specs.File.{Field, field_of, field_rows, fields_fault, file_bytes, plan_fields, put, sizes, unwritten, write, write_plan}
use Rattle.rules.proofs.Files.{fields_planned}
use Rattle.rules.proofs.Plans.{planned_iff}
use Rattle.rules.proofs.Shown.{plan_row}
use Rattle.table.specs.Memory.{table_of, plan_of}
use Rattle.table.specs.Walk.{RowFields, fields_in, start_of}
use Rattle.table.specs.Answers.{refused_of, rows_pass, planning_of, plan_or_refuse, row_refusal, plan_read, written_of, output_after}
use Rattle.table.specs.declared.Table.{Table}
use Rattle.table.specs.declared.Plan.{Plan}
use Rattle.table.specs.declared.Refused.{Refused}
use Rattle.table.proofs.Places.{length_indexed}
use Rattle.table.proofs.Walked.{shown_from, shown_size}

pub fault_passed : (fault : Option rules.Refused) → rows_pass fault ≡ Ok tt → fault ≡ none
fault_passed none e = refl
fault_passed (some x) e = cc

-- the plan of a table of any length
module _ (rs : List Row) where
  pub plan_many : 16 < length rs → Err (refused_of (refusal row_17)) ≡ planning_of (plan_or_refuse rs)
  unfolding plan_or_refuse
  plan_many h = sym (ap (λ (b : Bool). planning_of (cond b (unplanned (refusal row_17)) (plan rs))) (lt-ltb 16 (length rs) h))

  pub plan_few : length rs ≤ 16 → plan_or_refuse rs ≡ plan rs
  unfolding plan_or_refuse
  plan_few h = ap (λ (b : Bool). cond b (unplanned (refusal row_17)) (plan rs)) (le-ltb 16 (length rs) h)

-- the plan of a file's fields by what their checks say
module _ (fs : List Field) where
  pub plan_passed : fields_fault (length fs) [] 0 fs ≡ none → plan_fields fs ≡ plan_rows [] 0 (field_rows fs)
  plan_passed e = ap (λ (fault : Option rules.Refused). unless fault unplanned (plan_rows [] 0 (field_rows fs))) e

  pub plan_failed : {x : Refused} → rows_pass (fields_fault (length fs) [] 0 fs) ≡ Err x → planning_of (plan_fields fs) ≡ Err x
  plan_failed {x} e = go (fields_fault (length fs) [] 0 fs) e
    where
      go : (fault : Option rules.Refused) → rows_pass fault ≡ Err x → planning_of (unless fault unplanned (plan_rows [] 0 (field_rows fs))) ≡ Err x
      go none e = cc
      go (some y) e = let same : refused_of y ≡ x = cc in ap Err same

-- the plan keeps the rows
pub fields_keep : (fs : List Field) (ps : List PlannedRow) → plan_fields fs ≡ planned ps → map (λ p. p.row) ps ≡ field_rows fs
fields_keep fs ps e = ((planned_iff (field_rows fs) ps).0 (fields_planned fs ps e)).rows_are

-- what is read of a file's n rows by their plan
module _ (s : List ℕ) (n : ℕ) (stand : RowFields s n) where
  pub failed_row : {x : Refused} → planning_of (plan_fields (fields_in s n)) ≡ Err x → x.row < n
  failed_row {x} e = go (plan_fields (fields_in s n)) refl e
    where
      go : (q : bounds.Plan) → plan_fields (fields_in s n) ≡ q → planning_of q ≡ Err x → x.row < n
      go (planned ps) i e = cc
      go (unplanned y) i e =
          let same : y.row ≡ x.row = cc in
          omega (arith, plan_row (fields_in s n) y i, length_indexed (λ i. field_of (drop (start_of s i) s)) 0 n)

  pub failed_read : {x : Refused} → planning_of (plan_fields (fields_in s n)) ≡ Err x → Err (row_refusal s x) ≡ plan_read (fields_in s n) (plan_fields (fields_in s n))
  failed_read {x} e = go (plan_fields (fields_in s n)) e (failed_row e)
    where
      go : (q : bounds.Plan) → planning_of q ≡ Err x → x.row < n → Err (row_refusal s x) ≡ plan_read (fields_in s n) q
      go (planned ps) e here = cc
      go (unplanned y) e here =
          let same : x ≡ refused_of y = cc in
          let at : x.row ≡ y.row = ap (λ (z : Refused). z.row) same in
          let from = sym (shown_from s n stand x.row here) ∙ ap (λ (i : ℕ). sizes (take i (fields_in s n))) at in
          let size = sym (shown_size s n stand x.row here) ∙ ap (λ (i : ℕ). sizes (take 1 (drop i (fields_in s n)))) at in
          λ i. Err (record { why = (same i).why; row = memory.Some ((same i).row + 1); part = record { from = from i; size = size i } })

  pub passed_read : (tb : Table) {p : Plan} → tb ≡ table_of (field_rows (fields_in s n)) → planning_of (plan_fields (fields_in s n)) ≡ Ok p
      → Ok (record { table = tb; plan = p }) ≡ plan_read (fields_in s n) (plan_fields (fields_in s n))
  passed_read tb {p} t e = go (plan_fields (fields_in s n)) refl e
    where
      go : (q : bounds.Plan) → plan_fields (fields_in s n) ≡ q → planning_of q ≡ Ok p → Ok (record { table = tb; plan = p }) ≡ plan_read (fields_in s n) q
      go (planned ps) i e =
          let same : p ≡ plan_of ps = cc in
          let rows = t ∙ ap table_of (sym (fields_keep (fields_in s n) ps i)) in
          λ k. Ok (record { table = rows k; plan = same k })
      go (unplanned x) i e = cc

-- what is written by a plan
pub write_plans : (rs : List Row) (out : List ℕ) → write rs out ≡ write_plan (plan_or_refuse rs) (file_bytes rs) out
unfolding write plan_or_refuse
write_plans rs out = go (ltb 16 (length rs))
  where
    go : (b : Bool) → cond b (unwritten row_17) (write_plan (plan rs) (file_bytes rs) out) ≡ write_plan (cond b (unplanned (refusal row_17)) (plan rs)) (file_bytes rs) out
    go true = refl
    go false = refl

module _ (p : bounds.Plan) (bytes out : List ℕ) where
  pub failed_written : {x : Refused} → planning_of p ≡ Err x → (Err x.why ≡ written_of (write_plan p bytes out)) × (out ≡ output_after out (write_plan p bytes out))
  failed_written {x} e = go p e
    where
      go : (q : bounds.Plan) → planning_of q ≡ Err x → (Err x.why ≡ written_of (write_plan q bytes out)) × (out ≡ output_after out (write_plan q bytes out))
      go (planned ps) e = cc
      go (unplanned y) e = let same : x ≡ refused_of y = cc in (ap (λ (z : Refused). Err z.why) same, refl)

  pub passed_written : {q : Plan} → planning_of p ≡ Ok q → put bytes out ≡ write_plan p bytes out
  passed_written {q} e = go p e
    where
      go : (x : bounds.Plan) → planning_of x ≡ Ok q → put bytes out ≡ write_plan x bytes out
      go (planned ps) e = refl
      go (unplanned x) e = cc

pub passed_few : (rs : List Row) {p : Plan} → planning_of (plan_or_refuse rs) ≡ Ok p → length rs ≤ 16
unfolding plan_or_refuse
passed_few rs {p} e = go (ltb 16 (length rs)) refl e
  where
    go : (b : Bool) → ltb 16 (length rs) ≡ b → planning_of (cond b (unplanned (refusal row_17)) (plan rs)) ≡ Ok p → length rs ≤ 16
    go true h e = cc
    go false h e = ltb-false 16 (length rs) h
