-- The check of a field in document 01's words: the number and the values of every case. Assumes nothing.
use Rattle.std.specs.Prelude.{ℕ, ◌+◌, Bool, List, Result, Ok, Err}
use Rattle.std.specs.Prelude as memory
use Rattle.std.proofs.Math.Option.{Option, none, some}
use Rattle.rules.specs.Lists.{unless}
use Rattle.rules.specs.Fields as rules
use Rattle.rules.specs.Fields.{field_fault, word}
use Rattle.refusal.specs.Refusals.{refusal_of}
use Rattle.wire.specs.declared.field.BadField.{BadField}

-- an option in memory as one of the rules
abbrev pub length_of : memory.Option ℕ → Option ℕ
length_of (memory.Some n) = some n
length_of memory.None = none

-- the size of the field at the start of s: its header, and the value that the header speaks of
abbrev pub field_size : List ℕ → ℕ
field_size s = 3 + word s 1

-- why a field is refused, and how many bytes are shown
abbrev pub bad_field : rules.BadField → BadField
bad_field b = record { why = refusal_of b.why; size = b.size }

-- the size of the field at the start of s, whose tag has a value of so many bytes, or why it is refused; late: it is a 17th row
abbrev pub field_check : memory.Option ℕ → Bool → List ℕ → Result ℕ BadField
field_check value late s = unless (field_fault (λ tag. length_of value) late s) (λ b. Err (bad_field b)) (Ok (field_size s))
