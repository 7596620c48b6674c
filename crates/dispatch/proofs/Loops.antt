-- What one turn of a loop does to the sets, folds and arrays of the specs. Assumes nothing.
use Rattle.std.proofs.Common.{◌≡◌, ℕ, zero, suc, ◌+◌, ◌*◌, ◌%◌, ◌^◌, ◌<◌, ◌≤◌, Bool, true, false, cond, List, [], ◌∷◌, length, get_or, set, refl, ap, ◌∙◌, le_of_suc-le-suc, not-suc-le-zero, add-zero, zero-add, add-one, arith, lit<, pow_pos}
use lib.Pow.{pow-lt}
use mir.Val.{bool_byte}
use native.Mathlib.Nat.{two-pow-succ}
use lib.Bits.{bit_or, or_lt}
use Rattle.dispatch.specs.Loops.{fold_rows, rows_that, upto}

-- the rows that pass a test, one after the other

pub that_none : (p : ℕ → Bool) → rows_that p 0 ≡ 0
unfolding rows_that
that_none p = refl

pub that_next : (p : ℕ → Bool) (i rows mark : ℕ) → i < 16 → rows ≡ rows_that p i → mark ≡ bool_byte (p i) → bit_or rows (mark * 2 ^ i % 2 ^ 16) ≡ rows_that p (i + 1)
unfolding rows_that
that_next p i rows mark h e q = rw (e, q, add-one) (ap (bit_or (rows_that p i)) (row_bit (p i)))
  where
    row_bit : (b : Bool) → bool_byte b * 2 ^ i % 2 ^ 16 ≡ cond b (2 ^ i) 0
    row_bit true = omega (arith, pow-lt {j = 16} h)
    row_bit false = omega arith

pub that_lt : (p : ℕ → Bool) (k : ℕ) → rows_that p k < 2 ^ k
unfolding rows_that
that_lt p zero = lit< tt
that_lt p (suc k) = or_lt (suc k) (rows_that p k) (cond (p k) (2 ^ k) 0) (omega (arith, that_lt p k, two-pow-succ k)) (step (p k))
  where
    step : (b : Bool) → cond b (2 ^ k) 0 < 2 ^ suc k
    step true = omega (arith, pow_pos k, two-pow-succ k)
    step false = omega (arith, pow_pos k, two-pow-succ k)

-- a fold, one row after the other

module _ {B : Type 0} (f : ℕ → B → B) where
  -- two folds that do the same at each row
  pub fold_same : (g : ℕ → B → B) (i k : ℕ) (b : B) → ((j : ℕ) → i ≤ j → (c : B) → f j c ≡ g j c) → fold_rows f i k b ≡ fold_rows g i k b
  unfolding fold_rows
  fold_same g i zero b h = refl
  fold_same g i (suc k) b h = rw (h i (omega arith) b) (fold_same g (suc i) k (g i b) (λ j l. h j (omega arith)))

  -- rows that change nothing are passed over
  pub fold_skip : (t i k : ℕ) (b : B) → ((j : ℕ) → i ≤ j → j < i + t → (c : B) → f j c ≡ c) → fold_rows f i (t + k) b ≡ fold_rows f (i + t) k b
  unfolding fold_rows
  fold_skip zero i k b h = rw (zero-add, add-zero)
  fold_skip (suc t) i k b h =
      let e : suc t + k ≡ suc (t + k) = omega arith in
      let q : i + suc t ≡ suc i + t = omega arith in
      rw (e, q) (ap (fold_rows f (suc i) (t + k)) (h i (omega arith) (omega arith) b) ∙ fold_skip t (suc i) k b (λ j l m. h j (omega arith) (omega arith)))

-- an array changed in place

upto_suc : {A : Type 0} (f : ℕ → A → A) (i : ℕ) (l : List A) (d : A) → i < length l → set (upto f i l) i (f i (get_or (upto f i l) i d)) ≡ upto f (suc i) l
unfolding upto
upto_suc f i [] d h = absurd (not-suc-le-zero h)
upto_suc f zero (x ∷ xs) d h = refl
upto_suc f (suc i) (x ∷ xs) d h = ap (λ ys. f 0 x ∷ ys) (upto_suc (λ j. f (suc j)) i xs d (le_of_suc-le-suc h))

pub upto_next : {A : Type 0} (f : ℕ → A → A) (i : ℕ) (l ys : List A) (x d : A) → ys ≡ upto f i l → x ≡ f i (get_or ys i d) → i < length l → set ys i x ≡ upto f (i + 1) l
upto_next f i l ys x d e q h = rw (q, e, add-one) (upto_suc f i l d h)

pub upto_none : {A : Type 0} (f : ℕ → A → A) (l : List A) → upto f 0 l ≡ l
unfolding upto
upto_none f l = refl
