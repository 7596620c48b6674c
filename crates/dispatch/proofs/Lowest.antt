-- The row of the lowest rank in a set, from its lowest row to the rest of it. Assumes nothing.
use Rattle.std.proofs.Common.{◌≡◌, ℕ, suc, ◌+◌, ◌-◌, ◌*◌, ◌%◌, ◌^◌, ◌<◌, ◌≤◌, Bool, true, false, not, ◌&&◌, eqb, ltb, List, Option, None, Some, sym, refl, ap, ◌∙◌, true≢false, zero-add, arith, ne_eqb, ltb-false, ltb-true}
use Rattle.std.specs.Bool.{then_some}
use Rattle.std.specs.Int.Bits.{bit_and}
use lib.Bits.{and_le_l}
use lib.Pow.{pow-lt}
use borrow.Author.Tests.{eqb-false}
use Rattle.rules.specs.Tick.{bit}
use Rattle.rules.proofs.Bools.{and_no, and_yes}
use Rattle.state.specs.Meaning.{entry}
use Rattle.state.specs.Sets.{least, others}
use Rattle.state.proofs.Bits.{bit_one, least_below, least_in}
use Rattle.dispatch.specs.declared.sets.Best.{Best}
use Rattle.dispatch.specs.Loops.{better, fold_rows, low_at, lowest_in}
use Rattle.dispatch.proofs.Arrays.{bit_minus}
use Rattle.dispatch.proofs.Loops.{fold_same, fold_skip}

-- the set without its lowest row
abbrev pub rest_of : ℕ → ℕ
rest_of set = bit_and set (others (2 ^ least set))

low_out : (rank : List ℕ) (set j : ℕ) → bit set j ≡ false → (b : Option Best) → low_at rank set j b ≡ b
low_out rank set j e b = rw e

-- of an empty set nothing is left
pub low_none : (rank : List ℕ) (set : ℕ) (b : Option Best) → set < 2 ^ 16 → 16 ≤ least set → fold_rows (low_at rank set) 0 16 b ≡ b
unfolding fold_rows
low_none rank set b small h =
    fold_skip (low_at rank set) 16 0 0 b (λ j l m. low_out rank set j (least_below set j small (omega arith)))

module _ (set : ℕ) (small : set < 2 ^ 16) (some_row : least set < 16) where
  one_lt : 2 ^ least set < 2 ^ 16
  one_lt = pow-lt {j = 16} some_row

  bit_rest : (j : ℕ) → bit (rest_of set) j ≡ (bit set j && not (eqb j (least set)))
  bit_rest j = bit_minus set (2 ^ least set) small one_lt j ∙ rw (bit_one (least set) j)

  rest_out : (j : ℕ) → j < least set + 1 → bit (rest_of set) j ≡ false
  rest_out j h = bit_rest j ∙ go (eqb j (least set)) refl
    where
      go : (b : Bool) → eqb j (least set) ≡ b → (bit set j && not b) ≡ false
      go true e = and_no (bit set j)
      go false e = rw (least_below set j small (omega (arith, eqb-false j (least set) e)))

  rest_in : (j : ℕ) → least set + 1 ≤ j → bit set j ≡ bit (rest_of set) j
  rest_in j h = sym (bit_rest j ∙ rw (ne_eqb j (least set) (λ e. omega arith)) (and_yes (bit set j)))

  pub rest_lt : rest_of set < set
  rest_lt =
      let new : rest_of set ≡ set → ⊥ = λ e. true≢false (sym (least_in set small some_row) ∙ ap (λ x. bit x (least set)) (sym e) ∙ rest_out (least set) (omega arith)) in
      omega (arith, and_le_l set (others (2 ^ least set)))

  pub low_turn : (rank : List ℕ) (b : Option Best) → fold_rows (low_at rank set) 0 16 b ≡ fold_rows (low_at rank (rest_of set)) 0 16 (better (entry rank (least set)) (least set) b)
  unfolding fold_rows
  low_turn rank b =
      let i = least set in
      let k = 15 - i in
      let all = low_at rank set in
      let rest = low_at rank (rest_of set) in
      let best = better (entry rank i) i b in
      let here : all i b ≡ best = rw (least_in set small some_row) in
      let before : 16 ≡ i + suc k = omega arith in
      let after : 16 ≡ suc i + k = omega arith in
      ap (λ n. fold_rows all 0 n b) before
      ∙ rw (zero-add i) at (fold_skip all i 0 (suc k) b (λ j l m. low_out rank set j (least_below set j small (omega arith))))
      ∙ ap (fold_rows all (suc i) k) here
      ∙ fold_same all rest (suc i) k best (λ j l c. rw (rest_in j (omega arith)))
      ∙ sym (ap (λ n. fold_rows rest 0 n best) after ∙ rw (zero-add (suc i)) at (fold_skip rest (suc i) 0 k best (λ j l m. low_out rank (rest_of set) j (rest_out j (omega arith)))))

-- what the loop over the rows of a set has at hand

row_is : (set row : ℕ) → lowest_in set ≡ Some row → (row ≡ least set) × (least set < 16)
row_is set row e = go (ltb (least set) 16) refl e
  where
    go : (b : Bool) → ltb (least set) 16 ≡ b → then_some b (least set) ≡ Some row → (row ≡ least set) × (least set < 16)
    go true q e = (cc, ltb-true (least set) 16 q)
    go false q e = absurd cc

pub no_row : (set : ℕ) → lowest_in set ≡ None → 16 ≤ least set
no_row set e = go (ltb (least set) 16) refl e
  where
    go : (b : Bool) → ltb (least set) 16 ≡ b → then_some b (least set) ≡ None → 16 ≤ least set
    go true q e = absurd cc
    go false q e = ltb-false (least set) 16 q

-- the set without its lowest row, as the loop has it
abbrev pub left_of : ℕ → ℕ → ℕ
left_of set row = bit_and set (65535 - 1 * 2 ^ row % 65536)

left_is : (set row : ℕ) → lowest_in set ≡ Some row → left_of set row ≡ rest_of set
left_is set row e =
    let (q, l) = row_is set row e in
    let one : 1 * 2 ^ least set % 65536 ≡ 2 ^ least set = omega (arith, pow-lt {j = 16} l) in
    rw (q, one)

pub left_lt : (set row : ℕ) → set < 2 ^ 16 → lowest_in set ≡ Some row → left_of set row < set
left_lt set row small e = rw (left_is set row e) (rest_lt set small (row_is set row e).1)

pub left_turn : (rank : List ℕ) (set row : ℕ) (b : Option Best) → set < 2 ^ 16 → lowest_in set ≡ Some row
    → fold_rows (low_at rank set) 0 16 b ≡ fold_rows (low_at rank (left_of set row)) 0 16 (better (entry rank row) row b)
left_turn rank set row b small e = let (q, l) = row_is set row e in rw (left_is set row e, q) (low_turn set small l rank b)
