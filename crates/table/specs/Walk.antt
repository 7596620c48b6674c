-- A file's fields, walked from its start: each where the one before it ends. Assumes nothing.
use Rattle.std.specs.Prelude.{ℕ, zero, suc, ◌+◌, ◌≤◌, ◌<◌, List, ◌≡◌, length, drop}
use Rattle.rules.specs.Fields.{byte}
use Rattle.rules.specs.File.{Field, field_of, size_of}
use Rattle.wire.specs.Field.{field_size}
use Rattle.table.specs.Memory.{indexed}

-- the tag of the field at a place
abbrev pub tag_at : List ℕ → ℕ → ℕ
tag_at s at = byte (drop at s) 0

-- the size of the field at a place
abbrev pub size_at : List ℕ → ℕ → ℕ
size_at s at = field_size (drop at s)

-- where the field at a position starts
abbrev pub start_of : List ℕ → ℕ → ℕ
start_of s zero = 0
start_of s (suc k) = start_of s k + size_at s (start_of s k)

-- the first n fields of a file, of rows
abbrev pub fields_in : List ℕ → ℕ → List Field
fields_in s n = indexed (λ i. field_of (drop (start_of s i) s)) 0 n

-- the field at a place is as long as its tag says, and stands in the file
abbrev pub Stands : List ℕ → ℕ → Type 0
Stands s at = (size_at s at ≡ size_of (tag_at s at)) × (at + size_of (tag_at s at) ≤ length s)

-- the first n fields do
abbrev pub RowFields : List ℕ → ℕ → Type 0
RowFields s n = (k : ℕ) → k < n → Stands s (start_of s k)
