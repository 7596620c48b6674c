-- A file that is scanned whole: its rows stand one after another, and the table in memory that holds them has just these rows. Assumes nothing.
use Prim.Native.Nat.{ℕ, zero, suc, ◌+◌, ◌-◌, ◌≤◌, ◌<◌}
use mathlib.Core.Path.{◌≡◌, refl, sym, ap, subst, ◌∙◌}
use mathlib.Core.Bool.{Bool, true, false, cond, ◌&&◌}
use mathlib.Core.List.{List, [], ◌∷◌, map}
use mathlib.Core.Option.{Option, none, some}
use native.Mathlib.Nat.{zero-add}
use native.Mathlib.Omega.{arith}
use lib.Dec.{eqb}
use lib.ListN.{length, get_or, drop, replicate, length-map, get_or-map}
use lib.Seq.{drop-drop}
use borrow.Author.Tests.{eqb-true}
use Rattle.std.specs.Prelude.{Ok, Err}
use Rattle.std.specs.Prelude as memory
use Rattle.rules.specs.Lists.{All, unless}
use Rattle.rules.specs.Refusals.{after_end}
use Rattle.rules.specs.Rows.{Row}
use Rattle.rules.specs.Bound.{Plan, planned, unplanned, plan}
use Rattle.rules.specs.Fields.{BadField, byte, field_fault}
use Rattle.rules.specs.File.{Field, Scan, broken, ends, field_of, field_rows, is_row, margin_tag, plan_fields, read, read_scan, row_tag, scan, size_of, table_length, whole, with_first, zero_margin}
use Rattle.rules.proofs.Files.{plan_by_rows}
use Rattle.wire.specs.Field.{field_size}
use Rattle.table.specs.Memory.{field_at, fields_of, fill, indexed, table_row, plan_of, rows_of, table_of}
use Rattle.table.specs.Walk.{RowFields, Stands, fields_in, start_of}
use Rattle.table.specs.Answers.{file_refusal, next_field, scanned_of, reading_of, scan_row, plan_read, file_read}
use Rattle.table.specs.declared.FileRefusal.{FileRefusal}
use Rattle.table.specs.declared.PlannedTable.{PlannedTable}
use Rattle.table.specs.declared.row.FileRows.{FileRows}
use Rattle.table.proofs.Places.{column_at, map_indexed}
use Rattle.table.proofs.Walked.{fields_shift, start_shift}
use Rattle.table.proofs.Fields.{found, row_field}
use Rattle.table.proofs.Verdicts.{fields_keep}

-- the two ways in which a field leaves a scan whole: a row, and what follows it is whole; or the end field, and nothing follows it
ends_whole : {A : Type 0} (at : ℕ) (s : List ℕ) (fs : List Field) (b : Bool) → eqb (length s) 3 ≡ b → cond b (whole []) (broken after_end (at + 3) (length s - 3)) ≡ whole fs → (fs ≡ [] → length s ≡ 3 → A) → A
ends_whole at s fs true h e at_end = at_end (let same : fs ≡ [] = cc in same) (eqb-true (length s) 3 h)
ends_whole at s fs false h e at_end = cc

field_whole : {A : Type 0} (fault : Option BadField) (b : Bool) (at : ℕ) (s : List ℕ) (x : Scan) (fs : List Field)
    → unless fault (λ y. broken y.why at y.size) (cond b (with_first (field_of s) x) (ends at s)) ≡ whole fs
    → (found at s fault b ≡ Ok (memory.Some (field_size s)) → with_first (field_of s) x ≡ whole fs → A)
    → (fs ≡ [] → length s ≡ 3 → A)
    → A
field_whole none true at s x fs e at_row at_end = at_row refl e
field_whole none false at s x fs e at_row at_end = ends_whole at s fs (eqb (length s) 3) refl e at_end
field_whole (some y) b at s x fs e at_row at_end = cc

first_whole : {A : Type 0} (f : Field) (x : Scan) (fs : List Field) → with_first f x ≡ whole fs → ((gs : List Field) → x ≡ whole gs → fs ≡ f ∷ gs → A) → A
first_whole f (whole gs) fs e next = next gs refl (let same : fs ≡ f ∷ gs = cc in same)
first_whole f (broken why from size) fs e next = cc

indexed_shift : {A : Type 0} (g h : ℕ → A) (from n : ℕ) → ((i : ℕ) → h i ≡ g (suc i)) → indexed h from n ≡ indexed g (suc from) n
indexed_shift g h from zero e = refl
indexed_shift g h from (suc n) e = ap (λ (a : _). a ∷ indexed h (suc from) n) (e from) ∙ ap (λ (l : List _). g (suc from) ∷ l) (indexed_shift g h (suc from) n e)

-- what a whole scan says of the rest of a file that it starts from
record Rest (more : ℕ) (s : List ℕ) (fs : List Field) : Type 0 where
  few : length fs ≤ more
  stand : RowFields s (length fs)
  fields : fs ≡ fields_in s (length fs)

rest_end : (more : ℕ) (s : List ℕ) (fs : List Field) → fs ≡ [] → length s ≡ 3 → Rest more s fs
rest_end more s fs e h = rw e (record { few = omega arith; stand = λ k l. absurd (omega arith); fields = refl })

rest_row : (more : ℕ) (s : List ℕ) (fs gs : List Field) → Stands s 0 → fs ≡ field_of s ∷ gs → Rest more (drop (field_size s) s) gs → Rest (suc more) s fs
rest_row more s fs gs stands e rest =
    rw e
    (record {
      few = omega (arith, rest.few);
      stand = fields_shift s (length gs) stands rest.stand;
      fields =
          ap (λ (l : List Field). field_of s ∷ l)
          (rest.fields
          ∙ indexed_shift (λ i. field_of (drop (start_of s i) s)) (λ i. field_of (drop (start_of (drop (field_size s) s) i) (drop (field_size s) s))) 0 (length gs)
          (λ i. ap field_of (drop-drop (start_of (drop (field_size s) s) i) (field_size s) s ∙ ap (λ (k : ℕ). drop k s) (sym (start_shift s i)))));
    })

whole_rest : (more at : ℕ) (s : List ℕ) (fs : List Field) → scan more at s ≡ whole fs → Rest more s fs
unfolding scan next_field
whole_rest zero at s fs e =
    field_whole (field_fault table_length (is_row s && true) s) (is_row s) at s (whole []) fs e
    (λ row first. cc (row_field true at s row).more)
    (rest_end zero s fs)
whole_rest (suc more) at s fs e =
    let size = size_of (byte s 0) in
    field_whole (field_fault table_length (is_row s && eqb (suc more) 0) s) (is_row s) at s (scan more (at + size) (drop size s)) fs e
    (λ row first.
    let f = row_field (eqb (suc more) 0) at s row in
    first_whole (field_of s) (scan more (at + size) (drop size s)) fs first
    (λ gs next same.
    rest_row more s fs gs (f.size_is, omega (arith, f.size_is, f.fits)) same
    (subst (λ (k : ℕ). Rest more (drop k s) gs) (sym f.size_is) (whole_rest more (at + size) (drop size s) gs next))))
    (rest_end (suc more) s fs)

pub scan_whole : (s : List ℕ) (n : ℕ) → scanned_of (scan 16 0 s) ≡ Ok n → (n ≤ 16) × RowFields s n × (scan 16 0 s ≡ whole (fields_in s n))
scan_whole s n e = go (scan 16 0 s) refl e
  where
    go : (x : Scan) → scan 16 0 s ≡ x → scanned_of x ≡ Ok n → (n ≤ 16) × RowFields s n × (scan 16 0 s ≡ whole (fields_in s n))
    go (whole fs) i e =
        let rest = whole_rest 16 0 s fs i in
        let count : length fs ≡ n = cc in
        (omega (arith, rest.few), subst (RowFields s) count rest.stand, i ∙ ap whole (rest.fields ∙ ap (fields_in s) count))
    go (broken why from size) i e = cc

pub scan_broken : (x : Scan) {y : FileRefusal} → scanned_of x ≡ Err y → reading_of (scan_row x) (read_scan x) ≡ Err y
scan_broken (whole fs) e = cc
scan_broken (broken why from size) {y} e = let same : file_refusal why from size ≡ y = cc in ap Err same

-- a list by index is the list
indexed_get_or : {A : Type 0} (g : ℕ → A) (d : A) (from : ℕ) (l : List A) → ((i : ℕ) → i < length l → g (from + i) ≡ get_or l i d) → indexed g from (length l) ≡ l
indexed_get_or g d from [] e = refl
indexed_get_or g d from (a ∷ l) e =
    let here : from + 0 ≡ from = omega arith in
    ap (λ (x : _). x ∷ indexed g (suc from) (length l)) (ap g (sym here) ∙ e 0 (omega arith))
    ∙ ap (λ (r : List _). a ∷ r) (indexed_get_or g d (suc from) l (λ i h. ap g (let next : suc from + i ≡ from + suc i = omega arith in next) ∙ e (suc i) (omega arith)))

-- what stands where there is no row
abbrev pub no_row : Row
no_row = record { C = 0; D = 0; T = 0; rank = 0; M = 0 }

-- the row at a position of the table in memory that holds these rows
row_at : (rs : List Row) → length rs ≤ 16 → (i : ℕ) → table_row (table_of rs) i ≡ get_or rs i no_row
row_at rs few i = λ k.
    record {
      C = column_at no_row (λ r. r.C) rs refl few i k;
      D = column_at no_row (λ r. r.D) rs refl few i k;
      T = column_at no_row (λ r. r.T) rs refl few i k;
      rank = column_at no_row (λ r. r.rank) rs refl few i k;
      M = column_at no_row (λ r. r.M) rs refl few i k;
    }

-- the rows of the table in memory that holds these rows
pub table_rows : (rs : List Row) → length rs ≤ 16 → rows_of (table_of rs) ≡ rs
table_rows rs few = indexed_get_or (table_row (table_of rs)) no_row 0 rs (λ i h. ap (table_row (table_of rs)) (zero-add i) ∙ row_at rs few i)

-- the fields of a file's rows in memory, where the table and the tags hold these fields
pub file_fields : (rows : FileRows) (fs : List Field) → length fs ≤ 16 → rows.table ≡ table_of (field_rows fs) → rows.tag ≡ fill 16 (map (λ f. f.tag) fs) → fields_of rows ≡ fs
file_fields rows fs few table tags =
    (λ k. indexed (λ i. record { tag = get_or (tags k) i 0; row = table_row (table k) i }) 0 (table k).n)
    ∙ ap (indexed field 0) (length-map fs (λ f. f.row))
    ∙ indexed_get_or field no_field 0 fs (λ i h. ap field (zero-add i) ∙ same i)
  where
    no_field : Field
    no_field = record { tag = 0; row = no_row }

    field : ℕ → Field
    field i = record { tag = get_or (fill 16 (map (λ f. f.tag) fs)) i 0; row = table_row (table_of (field_rows fs)) i }

    rows_few : length (field_rows fs) ≤ 16
    rows_few = omega (arith, length-map fs (λ f. f.row))

    same : (i : ℕ) → field i ≡ get_or fs i no_field
    same i = λ k. record { tag = column_at no_field (λ f. f.tag) fs refl few i k; row = (row_at (field_rows fs) rows_few i ∙ get_or-map (λ f. f.row) fs i no_field) k }

-- the rows of a file's fields in memory
pub rows_fields : (rows : FileRows) → field_rows (fields_of rows) ≡ rows_of rows.table
rows_fields rows = map_indexed (field_at rows) (λ f. f.row) 0 rows.table.n

-- a table in memory has no tags: 21 finds nothing in it, and it is planned by its rows

all_indexed : {A : Type 0} (P : A → Type 0) (g : ℕ → A) → ((i : ℕ) → P (g i)) → (from n : ℕ) → All P (indexed g from n)
all_indexed P g each from zero = tt
all_indexed P g each from (suc n) = (each from, all_indexed P g each (suc from) n)

no_margin_tag : (n i : ℕ) → eqb (get_or (replicate n row_tag) i 0) margin_tag ≡ false
no_margin_tag zero i = refl
no_margin_tag (suc n) zero = refl
no_margin_tag (suc n) (suc i) = no_margin_tag n i

pub plan_memory : (rows : FileRows) → rows.tag ≡ replicate 16 row_tag → plan_fields (fields_of rows) ≡ plan (rows_of rows.table)
plan_memory rows e =
    plan_by_rows (fields_of rows)
    (all_indexed (λ f. zero_margin f ≡ false) (field_at rows)
    (λ i. ap (λ (tags : List ℕ). eqb (get_or tags i 0) margin_tag && eqb (table_row rows.table i).M 0) e ∙ ap (λ (b : Bool). b && eqb (table_row rows.table i).M 0) (no_margin_tag 16 i)) 0
    rows.table.n)
    ∙ ap plan (rows_fields rows)

-- what is read has at most sixteen rows
pub read_few : (s : List ℕ) {x : PlannedTable} → file_read s ≡ Ok x → x.table.n ≤ 16
unfolding read file_read
read_few s {x} e = scanned (scan 16 0 s) refl e
  where
    planning : (fs : List Field) → length fs ≤ 16 → (p : Plan) → plan_fields fs ≡ p → plan_read fs p ≡ Ok x → x.table.n ≤ 16
    planning fs few (planned ps) i e =
        let same : record { table = table_of (map (λ p. p.row) ps); plan = plan_of ps } ≡ x = cc in
        let count = ap (λ (y : PlannedTable). y.table.n) same in
        omega (arith, sym count, few, length-map fs (λ f. f.row), ap length (fields_keep fs ps i))
    planning fs few (unplanned y) i e = cc

    scanned : (y : Scan) → scan 16 0 s ≡ y → reading_of (scan_row y) (read_scan y) ≡ Ok x → x.table.n ≤ 16
    scanned (whole fs) i e = planning fs (whole_rest 16 0 s fs i).few (plan_fields fs) refl e
    scanned (broken why from size) i e = cc
