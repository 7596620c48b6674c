-- Rows in a file and rows in memory: a field's numbers where they stand, a column with one more row, and bytes with one more row. Assumes nothing.
use Prim.Native.Nat.{ℕ, zero, suc, ◌+◌, ◌*◌, ◌≤◌, ◌<◌}
use mathlib.Core.Path.{◌≡◌, refl, sym, ap, ◌∙◌}
use mathlib.Core.Bool.{Bool, true, false, cond}
use mathlib.Core.List.{List, [], ◌∷◌, ◌++◌, map, map-map, append_assoc, append-nil}
use native.Mathlib.Nat.{not-suc-le-zero}
use native.Mathlib.Omega.{arith}
use lib.Dec.{eqb}
use native.Mathlib.Numerals.{add-one}
use lib.ListN.{length, get_or, set, drop, take, length-append, length-map}
use Rattle.std.specs.Prelude.{sum_by}
use Rattle.std.proofs.lemmas.List.Sums.{sum_by_push}
use lib.Seq.{sets, take-suc}
use borrow.Author.Tests.{lt-ltb, le-ltb}
use Rattle.rules.specs.Rows.{Row}
use Rattle.rules.specs.Refusals.{small_output}
use Rattle.rules.specs.File.{Field, field_of, field_rows, file_bytes, margin_bytes, plain_bytes, put, row_bytes, unwritten, written}
use Rattle.wire.proofs.Stores.{sets_front}
use Rattle.table.specs.Memory.{indexed, fill, table_of, row_size, rows_bytes, table_row}
use Rattle.table.specs.declared.Table.{Table}
use Rattle.table.specs.Walk.{fields_in, start_of}
use Rattle.table.proofs.Places.{length_indexed, indexed_more, column_next}

-- a column of the fields of a file: of their tags, or of their rows
abbrev pub Column : (Field → ℕ) → List ℕ → ℕ → List ℕ → Type 0
Column h s i column = column ≡ fill 16 (map h (fields_in s i))

-- one field more
pub column_more : (h : Field → ℕ) (s : List ℕ) (i x : ℕ) {column : List ℕ} → Column h s i column → i < 16 → x ≡ h (field_of (drop (start_of s i) s)) → Column h s (i + 1) (set column i x)
column_more h s i x so_far few v =
    let g : ℕ → Field = λ k. field_of (drop (start_of s k) s) in
    ap (λ (l : List ℕ). set l i x) so_far
    ∙ column_next h (fields_in s i) (g i) i x (length_indexed g 0 i) few v
    ∙ ap (λ (l : List Field). fill 16 (map h l)) (sym (indexed_more g i))

-- the columns, all filled, are the table of the file's rows
pub columns_table : (s : List ℕ) (i n : ℕ) {c d t rank m : List ℕ} → i ≡ n
    → Column (λ f. f.row.C) s i c
    → Column (λ f. f.row.D) s i d
    → Column (λ f. f.row.T) s i t
    → Column (λ f. f.row.rank) s i rank
    → Column (λ f. f.row.M) s i m
    → ◌≡◌ {A = Table} (record { n = n; c = c; d = d; t = t; rank = rank; m = m }) (table_of (field_rows (fields_in s n)))
columns_table s i n {c} {d} {t} {rank} {m} e pc pd pt pr pm =
    let fs = fields_in s i in
    let all : i ≡ length (field_rows fs) = sym (length-map fs (λ f. f.row) ∙ length_indexed (λ k. field_of (drop (start_of s k) s)) 0 i) in
    let row : (h : Row → ℕ) → fill 16 (map (λ f. h f.row) fs) ≡ fill 16 (map h (field_rows fs)) = λ h. ap (fill 16) (sym (map-map h (λ f. f.row) fs)) in
    rw (← e)
    (λ k.
    record {
      n = all k;
      c = (pc ∙ row (λ r. r.C)) k;
      d = (pd ∙ row (λ r. r.D)) k;
      t = (pt ∙ row (λ r. r.T)) k;
      rank = (pr ∙ row (λ r. r.rank)) k;
      m = (pm ∙ row (λ r. r.M)) k;
    })

rows_bytes_append : (rs ss : List Row) → rows_bytes (rs ++ ss) ≡ rows_bytes rs ++ rows_bytes ss
rows_bytes_append [] ss = refl
rows_bytes_append (r ∷ rs) ss = ap (λ (l : List ℕ). row_bytes r ++ l) (rows_bytes_append rs ss) ∙ sym (append_assoc (row_bytes r) (rows_bytes rs) (rows_bytes ss))

-- how long a row's field is, by its margin
pub size_within : (M : ℕ) → (10 ≤ row_size M) × (row_size M ≤ 12)
size_within M = go (eqb M 0)
  where
    go : (b : Bool) → (10 ≤ cond b 10 12) × (cond b 10 12 ≤ 12)
    go true = (omega arith, omega arith)
    go false = (omega arith, omega arith)

pub length_row : (r : Row) → length (row_bytes r) ≡ row_size r.M
length_row r = go (eqb r.M 0)
  where
    go : (b : Bool) → length (cond b (plain_bytes r) (margin_bytes r)) ≡ cond b 10 12
    go true = refl
    go false = refl

pub bytes_more : (g : ℕ → Row) (i : ℕ) → rows_bytes (indexed g 0 i) ++ row_bytes (g i) ≡ rows_bytes (indexed g 0 (i + 1))
bytes_more g i =
    sym
    (ap rows_bytes (indexed_more g i)
    ∙ rows_bytes_append (indexed g 0 i) (g i ∷ [])
    ∙ ap (λ (l : List ℕ). rows_bytes (indexed g 0 i) ++ l) (append-nil (row_bytes (g i))))

-- a file is its rows' bytes and the end field
pub file_bytes_lem : (rs : List Row) → rows_bytes rs ++ file_bytes [] ≡ file_bytes rs
file_bytes_lem [] = refl
file_bytes_lem (r ∷ rs) = append_assoc (row_bytes r) (rows_bytes rs) (file_bytes []) ∙ ap (λ (l : List ℕ). row_bytes r ++ l) (file_bytes_lem rs)

pub length_more : (g : ℕ → Row) (i : ℕ) → length (rows_bytes (indexed g 0 i)) + row_size (g i).M ≡ length (rows_bytes (indexed g 0 (i + 1)))
length_more g i =
    ap (λ (k : ℕ). length (rows_bytes (indexed g 0 i)) + k) (sym (length_row (g i)))
    ∙ sym (length-append (rows_bytes (indexed g 0 i)) (row_bytes (g i)))
    ∙ ap length (bytes_more g i)

-- at most twelve bytes a row; the first rows take no more than all
pub length_most : (rs : List Row) → length (rows_bytes rs) ≤ 12 * length rs
length_most [] = omega arith
length_most (r ∷ rs) = omega (arith, length_most rs, length-append (row_bytes r) (rows_bytes rs), length_row r, (size_within r.M).1)

pub length_first : (g : ℕ → Row) (from k n : ℕ) → k ≤ n → length (rows_bytes (indexed g from k)) ≤ length (rows_bytes (indexed g from n))
length_first g from zero n h = omega arith
length_first g from (suc k) zero h = absurd (not-suc-le-zero h)
length_first g from (suc k) (suc n) h =
    omega (
      arith,
      length_first g (suc from) k n (omega arith),
      length-append (row_bytes (g from)) (rows_bytes (indexed g (suc from) k)),
      length-append (row_bytes (g from)) (rows_bytes (indexed g (suc from) n)),
    )

pub length_file : (rs : List Row) → length (file_bytes rs) ≡ length (rows_bytes rs) + 3
length_file rs = ap length (sym (file_bytes_lem rs)) ∙ length-append (rows_bytes rs) (file_bytes [])

-- a file in an output that is too small, and in one that is not
module _ (bytes out : List ℕ) (size : ℕ) (long : length bytes ≡ size) where
  pub put_short : length out < size → put bytes out ≡ unwritten small_output
  put_short h = ap (λ (b : Bool). cond b (unwritten small_output) (written (length bytes) (bytes ++ drop (length bytes) out))) (lt-ltb (length out) (length bytes) (omega arith))

  pub put_fits : size ≤ length out → put bytes out ≡ written size (sets out 0 bytes)
  put_fits h =
      ap (λ (b : Bool). cond b (unwritten small_output) (written (length bytes) (bytes ++ drop (length bytes) out))) (le-ltb (length out) (length bytes) (omega arith))
      ∙ ap (λ (n : ℕ). written n (bytes ++ drop (length bytes) out)) long
      ∙ ap (written size) (sym (sets_front bytes out (omega arith)))

-- what the fields of the first rows take, by the column of margins
pub row_sizes_lem : (tb : Table) (n : ℕ) → n ≤ length tb.m → sum_by row_size (take n tb.m) ≡ length (rows_bytes (indexed (table_row tb) 0 n))
row_sizes_lem tb zero h = refl
row_sizes_lem tb (suc n) h =
    ap (sum_by row_size) (take-suc tb.m n 0 (omega arith))
    ∙ sum_by_push row_size (take n tb.m) (get_or tb.m n 0)
    ∙ ap (λ (k : ℕ). k + row_size (get_or tb.m n 0)) (row_sizes_lem tb n (omega arith))
    ∙ length_more (table_row tb) n
    ∙ ap (λ (k : ℕ). length (rows_bytes (indexed (table_row tb) 0 k))) (add-one n)
