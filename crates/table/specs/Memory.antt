-- A table in memory as the rules' rows, a file's rows in memory as the rules' fields, and both back: sixteen places, 0 where there is no row. Assumes nothing.
use Rattle.std.specs.Prelude.{ℕ, zero, suc, ◌<◌, cond, List, [], ◌∷◌, ◌++◌, map, eqb, length, get_or}
use Rattle.rules.specs.Rows.{Row}
use Rattle.rules.specs.Bound.{PlannedRow, promotion}
use Rattle.rules.specs.Fields.{two}
use Rattle.rules.specs.File.{Field, row_bytes}
use Rattle.rules.specs.Tables.{RowOk}
use Rattle.table.specs.declared.Table.{Table}
use Rattle.table.specs.declared.Plan.{Plan}
use Rattle.table.specs.declared.row.FileRows.{FileRows}

-- g from, g (from + 1), .., n of them
abbrev pub indexed : {A : Type 0} → (ℕ → A) → ℕ → ℕ → List A
indexed g from zero = []
indexed g from (suc n) = g from ∷ indexed g (suc from) n

-- n places: the list, then zeros
abbrev pub fill : ℕ → List ℕ → List ℕ
fill zero l = []
fill (suc n) [] = 0 ∷ fill n []
fill (suc n) (x ∷ l) = x ∷ fill n l

-- the row at a position, 0 throughout where there is none
abbrev pub table_row : Table → ℕ → Row
table_row tb i = record { C = get_or tb.c i 0; D = get_or tb.d i 0; T = get_or tb.t i 0; rank = get_or tb.rank i 0; M = get_or tb.m i 0 }

-- the rows of a table in memory
abbrev pub rows_of : Table → List Row
rows_of tb = indexed (table_row tb) 0 tb.n

-- the rows above the one at a position, the nearest first
abbrev pub above_of : Table → ℕ → List Row
above_of tb zero = []
above_of tb (suc i) = table_row tb i ∷ above_of tb i

-- rows as a table in memory
abbrev pub table_of : List Row → Table
table_of rs =
    record {
      n = length rs;
      c = fill 16 (map (λ r. r.C) rs);
      d = fill 16 (map (λ r. r.D) rs);
      t = fill 16 (map (λ r. r.T) rs);
      rank = fill 16 (map (λ r. r.rank) rs);
      m = fill 16 (map (λ r. r.M) rs);
    }

-- the field at a position of a file's rows in memory
abbrev pub field_at : FileRows → ℕ → Field
field_at rows i = record { tag = get_or rows.tag i 0; row = table_row rows.table i }

-- the fields of a file's rows in memory
abbrev pub fields_of : FileRows → List Field
fields_of rows = indexed (field_at rows) 0 rows.table.n

-- a plan in memory
abbrev pub plan_of : List PlannedRow → Plan
plan_of ps =
    record {
      r = fill 16 (map (λ p. p.R) ps);
      u = fill 16 (map (λ p. promotion p.row p.R) ps);
      rounds = fill 16 (map (λ p. p.rounds) ps);
    }

-- the first n rows have 1 ≤ C ≤ D ≤ T
abbrev pub Sound : Table → ℕ → Type 0
Sound tb n = (i : ℕ) → i < n → RowOk (table_row tb i)

-- how long the field of a row with this margin is
abbrev pub row_size : ℕ → ℕ
row_size M = cond (eqb M 0) 10 12

-- the header of a field
abbrev pub header_bytes : (tag bytes : ℕ) → List ℕ
header_bytes tag bytes = tag ∷ two bytes

-- the numbers that both forms of a row's field have
abbrev pub numbers_bytes : Row → List ℕ
numbers_bytes r = two r.C ++ (two r.D ++ (two r.T ++ (r.rank ∷ [])))

-- the bytes of rows, with no end field
abbrev pub rows_bytes : List Row → List ℕ
rows_bytes [] = []
rows_bytes (r ∷ rs) = row_bytes r ++ rows_bytes rs
