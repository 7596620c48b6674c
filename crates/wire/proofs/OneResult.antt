-- One possible result of each public function: every One (..) holds the right side of an equation in its contract. Assumes nothing.
use Prim.Native.Nat.{ℕ}
use mathlib.Core.Bool.{Bool}
use mathlib.Core.List.{List, [], ◌∷◌}
use lib.Seq.{sets}
use Rattle.std.specs.Prelude.{Option}
use Rattle.rules.specs.Fields.{byte, two, word}
use Rattle.rules.specs.OneResult.{One}
use Rattle.rules.proofs.OneResult.{one_result}
use Rattle.wire.specs.Field.{field_check}
use Rattle.wire.specs.View.{part_of, shown_of}
use Rattle.wire.specs.declared.view.Part.{Part}
use Rattle.wire.specs.declared.view.Place.{Place}

pub get_u16_lem : (s : List ℕ) (at : ℕ) → One (word s at)
get_u16_lem s at = one_result

pub put_u8_lem : (s : List ℕ) (at x : ℕ) → One (sets s at (x ∷ []))
put_u8_lem s at x = one_result

pub put_u16_lem : (s : List ℕ) (at x : ℕ) → One (sets s at (two x))
put_u16_lem s at x = one_result

pub tag_of_lem : (s : List ℕ) → One (byte s 0)
tag_of_lem s = one_result

pub check_field_lem : (s : List ℕ) (length : Option ℕ) (late : Bool) → One (field_check length late s)
check_field_lem s length late = one_result

pub of_lem : (self : Part) (s : List ℕ) → One (part_of self s)
of_lem self s = one_result

pub shown_lem : (table events : List ℕ) (place : Place) → One (shown_of table events place)
shown_lem table events place = one_result
