-- One possible result of each public function: every One (..) holds the right side of an equation in its contract. Assumes nothing.
use Prim.Native.Nat.{ℕ}
use mathlib.Core.List.{List}
use denote.Ref.{Bor}
use lib.ListN.{drop}
use Rattle.rules.specs.Events.{read_event}
use Rattle.rules.specs.OneResult.{One}
use Rattle.rules.proofs.OneResult.{one_result}
use Rattle.event.specs.Answers.{event_of, place_after}
use Rattle.event.specs.declared.reader.EventReader.{EventReader}

pub read_event_lem : (s : List ℕ) (at : ℕ) → One (event_of at (read_event (drop at s)))
read_event_lem s at = one_result

pub place_after_lem : (s : List ℕ) (at : ℕ) → One (place_after at (read_event (drop at s)))
place_after_lem s at = one_result

-- a reader is its bytes and its place

pub reader_at_lem : (bytes : Bor (List ℕ)) (at : ℕ) → One (bytes) × One (at)
reader_at_lem bytes at = (one_result, one_result)

pub next_lem : (self : EventReader) → One (event_of self.at (read_event (drop self.at self.bytes.now)))
next_lem self = one_result

pub after_lem : (self : EventReader) → One self.bytes × One (place_after self.at (read_event (drop self.at self.bytes.now)))
after_lem self = (one_result, one_result)
