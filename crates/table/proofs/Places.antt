-- Lists by index and places filled from the front: one more element, and the element at a place. Assumes nothing.
use Prim.Native.Nat.{ℕ, zero, suc, ◌+◌, ◌-◌, ◌<◌, ◌≤◌}
use mathlib.Core.Path.{◌≡◌, refl, sym, ap, ◌∙◌}
use mathlib.Core.List.{List, [], ◌∷◌, ◌++◌, map}
use native.Mathlib.Decide.{dec_lt}
use native.Mathlib.Nat.{add-zero, not-suc-le-zero, zero-add}
use native.Mathlib.Numerals.{add-one}
use native.Mathlib.Omega.{arith}
use lib.ListN.{length, get_or, set, take, drop, length-map, get_or-eq_default, get_or-map}
use Rattle.std.proofs.lemmas.List.{map-append}
use Rattle.table.specs.Memory.{indexed, fill}

module _ {A : Type 0} (g : ℕ → A) where
  pub length_indexed : (from n : ℕ) → length (indexed g from n) ≡ n
  length_indexed from zero = refl
  length_indexed from (suc n) = ap suc (length_indexed (suc from) n)

  -- one more, at the end
  pub indexed_next : (from n : ℕ) → indexed g from (n + 1) ≡ indexed g from n ++ (g (from + n) ∷ [])
  indexed_next from n = ap (indexed g from) (add-one n) ∙ snoc from n
    where
      snoc : (from n : ℕ) → indexed g from (suc n) ≡ indexed g from n ++ (g (from + n) ∷ [])
      snoc from zero = ap (λ (i : ℕ). g i ∷ []) (sym (add-zero from))
      snoc from (suc n) =
          let e : suc from + n ≡ from + suc n = omega arith in
          ap (λ (l : List A). g from ∷ l) (snoc (suc from) n ∙ ap (λ (i : ℕ). indexed g (suc from) n ++ (g i ∷ [])) e)

  -- one more, as the code counts
  pub indexed_more : (i : ℕ) → indexed g 0 (i + 1) ≡ indexed g 0 i ++ (g i ∷ [])
  indexed_more i = indexed_next 0 i ∙ ap (λ (k : ℕ). indexed g 0 i ++ (g k ∷ [])) (zero-add i)

  -- the first of them, and the others
  pub take_indexed : (from k n : ℕ) → k ≤ n → take k (indexed g from n) ≡ indexed g from k
  take_indexed from zero n h = refl
  take_indexed from (suc k) zero h = absurd (not-suc-le-zero h)
  take_indexed from (suc k) (suc n) h = ap (λ (l : List A). g from ∷ l) (take_indexed (suc from) k n (omega arith))

  pub drop_indexed : (from k n : ℕ) → k ≤ n → drop k (indexed g from n) ≡ indexed g (from + k) (n - k)
  drop_indexed from zero n h =
      let here : from ≡ from + 0 = omega arith in
      let all : n ≡ n - 0 = omega arith in
      ap (λ (i : ℕ). indexed g i n) here ∙ ap (indexed g (from + 0)) all
  drop_indexed from (suc k) zero h = absurd (not-suc-le-zero h)
  drop_indexed from (suc k) (suc n) h =
      let next : suc from + k ≡ from + suc k = omega arith in
      let left : n - k ≡ suc n - suc k = omega arith in
      drop_indexed (suc from) k n (omega arith) ∙ ap (λ (i : ℕ). indexed g i (n - k)) next ∙ ap (indexed g (from + suc k)) left

  -- a part of each
  pub map_indexed : {B : Type 0} (h : A → B) (from n : ℕ) → map h (indexed g from n) ≡ indexed (λ i. h (g i)) from n
  map_indexed h from zero = refl
  map_indexed h from (suc n) = ap (λ (l : List _). h (g from) ∷ l) (map_indexed h (suc from) n)

-- a store at the first place that is not filled
pub fill_next : (n : ℕ) (l : List ℕ) (i x : ℕ) → length l ≡ i → i < n → set (fill n l) i x ≡ fill n (l ++ (x ∷ []))
fill_next zero l i x e h = absurd (not-suc-le-zero h)
fill_next (suc n) [] i x e h = ap (λ (k : ℕ). set (0 ∷ fill n []) k x) (sym e)
fill_next (suc n) (y ∷ l) i x e h =
    ap (λ (k : ℕ). set (y ∷ fill n l) k x) (sym e) ∙ ap (λ (r : List ℕ). y ∷ r) (fill_next n l (length l) x refl (omega arith))

pub length_fill : (n : ℕ) (l : List ℕ) → length (fill n l) ≡ n
length_fill zero l = refl
length_fill (suc n) [] = ap suc (length_fill n [])
length_fill (suc n) (x ∷ l) = ap suc (length_fill n l)

pub get_or_fill : (n : ℕ) (l : List ℕ) (i : ℕ) → i < n → get_or (fill n l) i 0 ≡ get_or l i 0
get_or_fill zero l i h = absurd (not-suc-le-zero h)
get_or_fill (suc n) [] zero h = refl
get_or_fill (suc n) [] (suc i) h = get_or_fill n [] i (omega arith)
get_or_fill (suc n) (y ∷ l) zero h = refl
get_or_fill (suc n) (y ∷ l) (suc i) h = get_or_fill n l i (omega arith)

-- a column of sixteen places, at every position
pub column_at : {A : Type 0} (none : A) (h : A → ℕ) (l : List A) → h none ≡ 0 → length l ≤ 16 → (i : ℕ) → get_or (fill 16 (map h l)) i 0 ≡ h (get_or l i none)
column_at none h l z few i = go (dec_lt i 16)
  where
    go : Dec (i < 16) → get_or (fill 16 (map h l)) i 0 ≡ h (get_or l i none)
    go (yes m) = get_or_fill 16 (map h l) i m ∙ ap (get_or (map h l) i) (sym z) ∙ get_or-map h l i none
    go (no m) =
        get_or-eq_default (fill 16 (map h l)) 0 (omega (arith, length_fill 16 (map h l)))
        ∙ sym z
        ∙ ap h (sym (get_or-eq_default l none (omega arith)))

-- a column of sixteen places with one more element
pub column_next : {A : Type 0} (h : A → ℕ) (l : List A) (a : A) (i x : ℕ) → length l ≡ i → i < 16 → x ≡ h a → set (fill 16 (map h l)) i x ≡ fill 16 (map h (l ++ (a ∷ [])))
column_next h l a i x e few v =
    fill_next 16 (map h l) i x (length-map l h ∙ e) few
    ∙ ap (λ (y : ℕ). fill 16 (map h l ++ (y ∷ []))) v
    ∙ ap (fill 16) (sym (map-append h l (a ∷ [])))
