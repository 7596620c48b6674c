-- What the table read back of any bytes is refused with: the table of every image passes 5 to 9. Assumes nothing.
use Prim.Native.Nat.{ℕ, suc, ◌+◌, ◌≤◌}
use mathlib.Core.Bool.{Bool, true, false, cond}
use mathlib.Core.List.{List, [], ◌∷◌, ◌++◌}
use mathlib.Core.Logic.{◌⊎◌, inl, inr}
use mathlib.Core.Option.{none}
use mathlib.Core.Path.{◌≡◌, refl, ap, ◌∙◌}
use borrow.Author.Tests.{le-ltb}
use lib.Dec.{ltb}
use lib.ListN.{drop, length}
use Rattle.rules.specs.Bound.{Bound, Plan, bound, none_to_d, onto, plan, plan_rows, planned, response, unplanned, with_row}
use Rattle.rules.specs.File.{file_bytes, put, unwritten, write, write_plan, written}
use Rattle.rules.specs.Refusals.{R_M_over_D, at_row, number, passes_d, small_output}
use Rattle.rules.specs.Rows.{Row, table_fault}
use Rattle.rules.specs.Tables.{Bytes}
use Rattle.rules.proofs.ImageIs.{image_iff}
use Rattle.std.specs.Prelude.{Option, Some, None, is_some}
use Rattle.refusal.proofs.Numbered.{numbered}
use Rattle.block.specs.Tests.{decoded_of}
use Rattle.block.specs.declared.Decoded.{Decoded}
use Rattle.board.specs.Blocks.{table_block, writing_on}
use Rattle.board.specs.Promises.{TableNumber, TableNumbers}
use Rattle.board.proofs.Standing.{accepted_stands}
use Rattle.board.proofs.InForce.{table_stands}

-- the bound of a row refuses with 10, its margin with 22
abbrev ByBounds : Plan → Type 0
ByBounds (planned ps) = Unit {0}
ByBounds (unplanned x) = (x.why ≡ passes_d) ⊎ (x.why ≡ R_M_over_D)

by_row : (r : Row) (i : ℕ) (x : Bound) (p : Plan) → ByBounds p → ByBounds (with_row r i x p)
by_row r i none_to_d p h = inl refl
by_row r i (bound R rounds) p h = go (ltb r.D (R + r.M)) p h
  where
    go : (over : Bool) (p : Plan) → ByBounds p → ByBounds (cond over (unplanned (at_row R_M_over_D i)) (onto (record { row = r; R = R; rounds = rounds }) p))
    go true p h = inr refl
    go false (unplanned x) h = h
    go false (planned ps) h = tt

by_rows : (above : List Row) (i : ℕ) (rs : List Row) → ByBounds (plan_rows above i rs)
unfolding plan_rows
by_rows above i [] = tt
by_rows above i (r ∷ rs) = by_row r i (response above r) (plan_rows (r ∷ above) (suc i) rs) (by_rows (r ∷ above) (suc i) rs)

put_number : (bytes out : List ℕ) → TableNumber (writing_on (put bytes out) out).answer.refusal
put_number bytes out = go (ltb (length out) (length bytes))
  where
    go : (short : Bool) → TableNumber (writing_on (cond short (unwritten small_output) (written (length bytes) (bytes ++ drop (length bytes) out))) out).answer.refusal
    go true = inr (inr (inr (inr refl)))
    go false = inl refl

plan_number : (p : Plan) → ByBounds p → (bytes out : List ℕ) → TableNumber (writing_on (write_plan p bytes out) out).answer.refusal
plan_number (planned ps) h bytes out = put_number bytes out
plan_number (unplanned x) (inl h) bytes out = inr (inl (numbered x.why ∙ ap number h))
plan_number (unplanned x) (inr h) bytes out = inr (inr (inl (numbered x.why ∙ ap number h)))

write_number : (rs : List Row) → length rs ≤ 16 → table_fault rs ≡ none → (out : List ℕ) → TableNumber (writing_on (write rs out) out).answer.refusal
unfolding write plan
write_number rs few no_fault out = rw (le-ltb 16 (length rs) few, no_fault) (plan_number (plan_rows [] 0 rs) (by_rows [] 0 rs) (file_bytes rs) out)

image_number : (b out : List ℕ) → Bytes b → is_some (decoded_of b) ≡ true → TableNumber (table_block b out).answer.refusal
image_number b out bytes ok =
    let (st, image, H) = accepted_stands b bytes ok in
    let T = ((image_iff st).0 image).table in
    rw (table_stands H out) (write_number _ T.few T.no_fault out)

pub table_numbers : TableNumbers
unfolding table_block
table_numbers b out bytes = go (decoded_of b) refl
  where
    go : (x : Option Decoded) → decoded_of b ≡ x → TableNumber (table_block b out).answer.refusal
    go (Some x) e = image_number b out bytes (rw e refl)
    go None e = rw e (inr (inr (inr (inl refl))))
