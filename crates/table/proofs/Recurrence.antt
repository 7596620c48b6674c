-- The recurrence of a row: how large a term is, that f grows, and one turn of the iteration. Assumes nothing.
use Prim.Native.Nat.{ℕ, zero, suc, ◌+◌, ◌-◌, ◌≤◌, ◌<◌}
use mathlib.Core.Path.{◌≡◌, refl, sym, ap, ◌∙◌}
use mathlib.Core.List.{List}
use native.Mathlib.Nat.{mul-le-mul_right, add-le-add, le_refl}
use native.Mathlib.Numerals.{add-one}
use native.Mathlib.Omega.{arith}
use borrow.Author.Tests.{eq-eqb, ne_eqb, lt-ltb, le-ltb}
use Rattle.rules.specs.Rows.{Row}
use Rattle.rules.specs.Bound.{f, Bound, bound, none_to_d, iterate, response}
use Rattle.rules.proofs.Ceil.{ceil_mono}
use Rattle.table.specs.Memory.{table_row, above_of, Sound}
use Rattle.table.specs.Answers.{demand_of}
use Rattle.table.specs.declared.Table.{Table}

pub demand_mono : (tb : Table) (i w v : ℕ) → w ≤ v → Sound tb i → demand_of (above_of tb i) w ≤ demand_of (above_of tb i) v
demand_mono tb zero w v h ok = le_refl 0
demand_mono tb (suc i) w v h ok =
    let r = ok i (omega arith) in
    add-le-add (mul-le-mul_right (table_row tb i).C (ceil_mono (table_row tb i).T (omega arith) w v h)) (demand_mono tb i w v h (λ j q. ok j (omega arith)))

-- the iteration, come to w after k rounds
abbrev pub came_to : List Row → Row → ℕ → ℕ → Bound
came_to above r k w = iterate above r (suc (r.D - r.C) - k) k w

goes_on : (above : List Row) (r : Row) (n m k w : ℕ) → n ≡ suc m → w ≤ r.D → (f above r w ≡ w → ⊥) → iterate above r n k w ≡ iterate above r m (suc k) (f above r w)
goes_on above r n m k w s h e = rw s (simp (le-ltb _ _ h, ne_eqb _ _ e))

passes : (above : List Row) (r : Row) (n k w : ℕ) → r.D < w → iterate above r n k w ≡ none_to_d
passes above r zero k w h = refl
passes above r (suc n) k w h = simp (lt-ltb _ _ h)

repeats : (above : List Row) (r : Row) (n m k w : ℕ) → n ≡ suc m → w ≤ r.D → f above r w ≡ w → iterate above r n k w ≡ bound w (suc k)
repeats above r n m k w s h e = rw s (simp (le-ltb _ _ h, eq-eqb _ _ e))

-- its start, and the ways of a turn; v is f(w), as the code has computed it
module _ (above : List Row) (r : Row) where
  pub turn_start : (w : ℕ) → w ≡ r.C → response above r ≡ came_to above r 0 w
  turn_start w e =
      let all : suc (r.D - r.C) ≡ suc (r.D - r.C) - 0 = omega arith in
      ap (λ (n : ℕ). iterate above r n 0 r.C) all ∙ ap (came_to above r 0) (sym e)

  pub turn_passes : (k w : ℕ) → r.D < w → came_to above r k w ≡ none_to_d
  turn_passes k w h = passes above r (suc (r.D - r.C) - k) k w h

  pub turn_repeats : (k w v : ℕ) → r.C + k ≤ w → w ≤ r.D → v ≡ f above r w → v ≡ w → came_to above r k w ≡ bound w (k + 1)
  turn_repeats k w v late h e q = repeats above r (suc (r.D - r.C) - k) (r.D - r.C - k) k w (omega arith) h (sym e ∙ q) ∙ ap (bound w) (sym (add-one k))

  pub turn_goes_on : (k w v : ℕ) → r.C + k ≤ w → w ≤ r.D → v ≡ f above r w → (v ≡ w → ⊥) → came_to above r k w ≡ came_to above r (k + 1) v
  turn_goes_on k w v late h e q =
      goes_on above r (suc (r.D - r.C) - k) (suc (r.D - r.C) - (k + 1)) k w (omega arith) h (λ p. q (e ∙ p))
      ∙ ap (λ (j : ℕ). iterate above r (suc (r.D - r.C) - (k + 1)) j (f above r w)) (sym (add-one k))
      ∙ ap (came_to above r (k + 1)) (sym e)
