-- A file walked field by field: one field further, past the first, and the bytes that the fields take. Assumes nothing.
use Prim.Native.Nat.{ℕ, zero, suc, ◌+◌, ◌-◌, ◌≤◌, ◌<◌}
use mathlib.Core.Bool.{Bool, true, false, cond}
use mathlib.Core.List.{List, [], ◌∷◌, ◌++◌}
use mathlib.Core.Path.{◌≡◌, refl, sym, ap, subst, ◌∙◌}
use native.Mathlib.Numerals.{add-one}
use native.Mathlib.Omega.{arith}
use lib.Dec.{eqb}
use lib.ListN.{drop, take, length-drop}
use lib.Seq.{drop-drop}
use Rattle.rules.specs.Fields.{byte}
use Rattle.rules.specs.File.{Field, field_of, margin_tag, size_of, sizes}
use Rattle.wire.specs.Field.{field_size}
use Rattle.table.specs.Memory.{indexed}
use Rattle.table.specs.Walk.{RowFields, Stands, fields_in, size_at, start_of, tag_at}
use Rattle.table.proofs.Places.{drop_indexed, indexed_more, take_indexed}

-- a row's field has ten bytes or twelve
pub size_within : (tag : ℕ) → (10 ≤ size_of tag) × (size_of tag ≤ 12)
size_within tag = go (eqb tag margin_tag)
  where
    go : (b : Bool) → (10 ≤ cond b 12 10) × (cond b 12 10 ≤ 12)
    go true = (omega arith, omega arith)
    go false = (omega arith, omega arith)

-- one field further, as the code counts
pub start_next : (s : List ℕ) (k at size : ℕ) → at ≡ start_of s k → size ≡ size_at s at → at + size ≡ start_of s (k + 1)
start_next s k at size here e = ap (λ (n : ℕ). at + n) e ∙ ap (λ (n : ℕ). n + size_at s n) here ∙ ap (start_of s) (sym (add-one k))

-- past the first field the rest of a file is walked as the file is
pub start_shift : (s : List ℕ) (k : ℕ) → start_of s (suc k) ≡ field_size s + start_of (drop (field_size s) s) k
start_shift s zero = omega arith
start_shift s (suc k) =
    let next = start_of (drop (field_size s) s) k in
    let same : field_size s + next + size_at (drop (field_size s) s) next ≡ field_size s + (next + size_at (drop (field_size s) s) next) = omega arith in
    ap (λ (at : ℕ). at + size_at s at) (start_shift s k) ∙ ap (λ (l : List ℕ). field_size s + next + field_size l) (sym (drop-drop next (field_size s) s)) ∙ same

stands_shift : (s : List ℕ) (first at : ℕ) → Stands (drop first s) at → Stands s (first + at)
stands_shift s first at stands =
    let same = drop-drop at first s in
    let tag = ap (λ (l : List ℕ). byte l 0) same in (
      ap field_size (sym same) ∙ stands.0 ∙ ap size_of tag,
      omega (arith, stands.1, length-drop first s, ap size_of tag, (size_within (tag_at s (first + at))).0),
    )

pub fields_shift : (s : List ℕ) (n : ℕ) → Stands s 0 → RowFields (drop (field_size s) s) n → RowFields s (suc n)
fields_shift s n stands later zero l = stands
fields_shift s n stands later (suc k) l = subst (Stands s) (sym (start_shift s k)) (stands_shift s (field_size s) (start_of (drop (field_size s) s) k) (later k (omega arith)))

-- the bytes of fields, one after the other

sizes_append : (fs : List Field) (f : Field) → sizes (fs ++ (f ∷ [])) ≡ sizes fs + size_of f.tag
sizes_append [] f = omega arith
sizes_append (g ∷ fs) f = omega (arith, sizes_append fs f)

sizes_first : (s : List ℕ) (n : ℕ) → RowFields s n → (k : ℕ) → k ≤ n → sizes (fields_in s k) ≡ start_of s k
sizes_first s n fields zero l = refl
sizes_first s n fields (suc k) l =
    let g : ℕ → Field = λ i. field_of (drop (start_of s i) s) in
    ap (λ (i : ℕ). sizes (fields_in s i)) (sym (add-one k))
    ∙ ap sizes (indexed_more g k)
    ∙ sizes_append (fields_in s k) (g k)
    ∙ ap (λ (i : ℕ). i + size_of (tag_at s (start_of s k))) (sizes_first s n fields k (omega arith))
    ∙ ap (λ (i : ℕ). start_of s k + i) (sym (fields k (omega arith)).0)

-- what is shown of the row at a position: from where its field starts, as many bytes as it has
module _ (s : List ℕ) (n : ℕ) (fields : RowFields s n) (k : ℕ) (here : k < n) where
  pub shown_from : sizes (take k (fields_in s n)) ≡ start_of s k
  shown_from = ap sizes (take_indexed (λ i. field_of (drop (start_of s i) s)) 0 k n (omega arith)) ∙ sizes_first s n fields k (omega arith)

  pub shown_size : sizes (take 1 (drop k (fields_in s n))) ≡ size_at s (start_of s k)
  shown_size =
      let g : ℕ → Field = λ i. field_of (drop (start_of s i) s) in
      let left : n - k ≡ suc (n - suc k) = omega arith in
      let start : 0 + k ≡ k = omega arith in
      let same : size_of (tag_at s (start_of s k)) + 0 ≡ size_of (tag_at s (start_of s k)) = omega arith in
      ap (λ (l : List Field). sizes (take 1 l)) (drop_indexed g 0 k n (omega arith) ∙ ap (indexed g (0 + k)) left)
      ∙ ap (λ (i : ℕ). size_of (g i).tag + 0) start
      ∙ same
      ∙ sym (fields k here).0
