-- The arrays after a step, entry by entry, and the sets, row by row: at every position, inside the array or past it. Assumes nothing.
use Rattle.std.proofs.Common.{◌≡◌, ℕ, zero, suc, ◌^◌, ◌<◌, ◌≤◌, Bool, true, false, cond, not, ◌&&◌, ◌||◌, eqb, List, [], ◌∷◌, length, get_or, set, sym, refl, ap, le_of_suc-le-suc, not-suc-le-zero, arith, get_or-set_other, get_or-set_same, eq-eqb, ne_eqb, eqb-true}
use Rattle.std.proofs.Math.Bool.{or-false}
use native.Mathlib.Decide.{dec_lt}
use lib.Bits.{bit_and}
use lib.ListN.{get_or-eq_default}
use borrow.Author.Tests.{eqb-false}
use Rattle.rules.specs.Tick.{bit}
use Rattle.rules.proofs.Bools.{and_no, and_yes}
use Rattle.state.specs.Meaning.{entry}
use Rattle.state.specs.Sets.{others}
use Rattle.state.proofs.Bits.{bit_of_and, bit_one, bit_of_or, bit_others, bit_past, bit_zero}
use Rattle.dispatch.specs.Loops.{marked, rows_that, upto}
use Rattle.dispatch.specs.Steps.{shifted}
use Rattle.dispatch.proofs.Loops.{that_lt}

pub past_end : (a : List ℕ) (i : ℕ) → length a ≤ i → entry a i ≡ 0
past_end a i h = get_or-eq_default a 0 h

-- arrays

pub length_upto : {A : Type 0} (f : ℕ → A → A) (n : ℕ) (l : List A) → length (upto f n l) ≡ length l
unfolding upto
length_upto f zero l = refl
length_upto f (suc n) [] = refl
length_upto f (suc n) (x ∷ xs) = ap suc (length_upto (λ i. f (suc i)) n xs)

get_or_upto : {A : Type 0} (f : ℕ → A → A) (n : ℕ) (l : List A) (i : ℕ) (d : A) → i < n → i < length l → get_or (upto f n l) i d ≡ f i (get_or l i d)
unfolding upto
get_or_upto f zero l i d h k = absurd (not-suc-le-zero h)
get_or_upto f (suc n) [] i d h k = absurd (not-suc-le-zero k)
get_or_upto f (suc n) (x ∷ xs) zero d h k = refl
get_or_upto f (suc n) (x ∷ xs) (suc i) d h k = get_or_upto (λ j. f (suc j)) n xs i d (le_of_suc-le-suc h) (le_of_suc-le-suc k)

pub stamped_at : (a : List ℕ) (rows v : ℕ) → length a ≡ 16 → rows < 2 ^ 16 → (i : ℕ) → entry (upto (marked rows v) 16 a) i ≡ cond (bit rows i) v (entry a i)
stamped_at a rows v n h i = go (dec_lt i 16)
  where
    go : Dec (i < 16) → entry (upto (marked rows v) 16 a) i ≡ cond (bit rows i) v (entry a i)
    go (yes l) = get_or_upto (marked rows v) 16 a i 0 l (omega arith)
    go (no l) =
        rw (past_end (upto (marked rows v) 16 a) i (omega (arith, length_upto (marked rows v) 16 a)), bit_past 16 rows i h (omega arith), past_end a i (omega arith))

-- one entry put to v
pub set_at : (a : List ℕ) (i v j : ℕ) → i < length a → entry (set a i v) j ≡ cond (eqb j i) v (entry a j)
set_at a i v j h = go (eqb j i) refl
  where
    go : (b : Bool) → eqb j i ≡ b → entry (set a i v) j ≡ cond b v (entry a j)
    go true e = rw (eqb-true j i e) (get_or-set_same a i v 0 h)
    go false e = get_or-set_other a i j v 0 (eqb-false j i e)

pub shift_at : (a : List ℕ) → length a ≡ 8 → (j : ℕ) → entry (shifted a) j ≡ entry a (suc j)
shift_at a n zero = refl
shift_at a n (suc zero) = refl
shift_at a n (suc (suc zero)) = refl
shift_at a n (suc (suc (suc zero))) = refl
shift_at a n (suc (suc (suc (suc zero)))) = refl
shift_at a n (suc (suc (suc (suc (suc zero))))) = refl
shift_at a n (suc (suc (suc (suc (suc (suc zero)))))) = refl
shift_at a n (suc (suc (suc (suc (suc (suc (suc zero))))))) = sym (past_end a 8 (omega arith))
shift_at a n (suc (suc (suc (suc (suc (suc (suc (suc j)))))))) = sym (past_end a (suc (suc (suc (suc (suc (suc (suc (suc (suc j))))))))) (omega arith))

-- sets

-- without the rows of b
pub bit_minus : (a b : ℕ) → a < 2 ^ 16 → b < 2 ^ 16 → (i : ℕ) → bit (bit_and a (others b)) i ≡ (bit a i && not (bit b i))
bit_minus a b h k i = rw (bit_of_and a (others b) i) (go (dec_lt i 16))
  where
    go : Dec (i < 16) → (bit a i && bit (others b) i) ≡ (bit a i && not (bit b i))
    go (yes l) = rw (bit_others b i k l)
    go (no l) = rw (bit_past 16 a i h (omega arith))

-- the rows that pass a test

bit_mark : (b : Bool) (k i : ℕ) → bit (cond b (2 ^ k) 0) i ≡ (b && eqb i k)
bit_mark true k i = bit_one k i
bit_mark false k i = bit_zero i

pub bit_that : (p : ℕ → Bool) (k i : ℕ) → i < k → bit (rows_that p k) i ≡ p i
unfolding rows_that
bit_that p zero i h = absurd (not-suc-le-zero h)
bit_that p (suc k) i h = rw (bit_of_or (rows_that p k) (cond (p k) (2 ^ k) 0) i, bit_mark (p k) k i) (go (dec_lt i k) (bit_that p k i))
  where
    go : Dec (i < k) → (i < k → bit (rows_that p k) i ≡ p i) → (bit (rows_that p k) i || (p k && eqb i k)) ≡ p i
    go (yes l) ih = rw (ih l, ne_eqb i k (λ z. omega arith), and_no (p k)) (or-false (p i))
    go (no l) ih = let e : i ≡ k = omega arith in rw (bit_past k (rows_that p k) i (that_lt p k) (omega arith), eq-eqb i k e, and_yes (p k)) (ap p (sym e))
