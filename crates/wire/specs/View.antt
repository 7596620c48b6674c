-- Document 01, "it is a part of one of the two lent files": what a refusal shows. Assumes nothing.
use Rattle.std.specs.Prelude.{ℕ, List, take, drop}
use Rattle.wire.specs.declared.view.Part.{Part}
use Rattle.wire.specs.declared.view.Place.{Place}

-- so many bytes from a place on, as far as they go
abbrev pub part_of : Part → List ℕ → List ℕ
part_of part s = take part.size (drop part.from s)

-- the shown part, of one of the two files
abbrev pub shown_of : List ℕ → List ℕ → Place → List ℕ
shown_of table events (Place.Table part) = part_of part table
shown_of table events (Place.Events part) = part_of part events
