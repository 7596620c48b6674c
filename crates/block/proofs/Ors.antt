-- Numbers of faults together: one more, and none. Assumes nothing.
use Rattle.std.proofs.Common.{◌≡◌, ℕ, zero, suc, ◌+◌, ◌^◌, ◌<◌, ◌≤◌, cond, List, length, drop, refl, ap, ◌∙◌, not-suc-le-zero, add-zero, add-one, arith, pow_pos, length-drop, length-take-le, get_or-drop, le-ltb, lt-ltb}
use Rattle.std.proofs.lemmas.List.{get_or-take}
use borrow.Rule.Slice.PartMut.{mid_of}
use lib.Dec.{ltb}
use lib.Bits.{and_le_l, and_le_r, bit_or, or_add_and, or_lt, or_zero_r}
use native.Mathlib.Decide.{dec_lt}
use Rattle.state.specs.Meaning.{entry}
use Rattle.block.specs.Tests.{or_of}

-- two

or_left : (a b : ℕ) → a ≤ bit_or a b
or_left a b = omega (arith, or_add_and a b, and_le_r a b)

or_right : (a b : ℕ) → b ≤ bit_or a b
or_right a b = omega (arith, or_add_and a b, and_le_l a b)

pub or_none : (a b : ℕ) → bit_or a b ≡ 0 → (a ≡ 0) × (b ≡ 0)
or_none a b e = (omega (arith, or_left a b), omega (arith, or_right a b))

pub none_or : (a b : ℕ) → a ≡ 0 → b ≡ 0 → bit_or a b ≡ 0
none_or a b p q = rw (p, q) (or_zero_r 0)

-- the first n

module _ (f : ℕ → ℕ) where
  pub or_start : or_of f 0 ≡ 0
  unfolding or_of
  or_start = refl

  or_suc : (i : ℕ) → or_of f (suc i) ≡ bit_or (or_of f i) (f i)
  unfolding or_of
  or_suc i = refl

  pub or_more : (i : ℕ) → or_of f (i + 1) ≡ bit_or (or_of f i) (f i)
  or_more i = rw add-one (or_suc i)

  pub le_or : (n i : ℕ) → i < n → f i ≤ or_of f n
  unfolding or_of
  le_or zero i h = absurd (not-suc-le-zero h)
  le_or (suc n) i h = go (dec_lt i n) (le_or n i)
    where
      go : Dec (i < n) → (i < n → f i ≤ or_of f n) → f i ≤ bit_or (or_of f n) (f n)
      go (yes l) ih = omega (arith, ih l, or_left (or_of f n) (f n))
      go (no m) ih = let e : i ≡ n = omega arith in rw e (or_right (or_of f n) (f n))

  -- no fault in all is no fault in each
  pub no_fault : (n : ℕ) → or_of f n ≡ 0 → (i : ℕ) → i < n → f i ≡ 0
  no_fault n e i h = omega (arith, le_or n i h)

  pub faultless : (n : ℕ) → ((i : ℕ) → i < n → f i ≡ 0) → or_of f n ≡ 0
  unfolding or_of
  faultless zero h = refl
  faultless (suc n) h = none_or (or_of f n) (f n) (faultless n (λ i l. h i (omega arith))) (h n (omega arith))

  pub or_below : (k n : ℕ) → ((i : ℕ) → i < n → f i < 2 ^ k) → or_of f n < 2 ^ k
  unfolding or_of
  or_below k zero h = pow_pos k
  or_below k (suc n) h = or_lt k (or_of f n) (f n) (or_below k n (λ i l. h i (omega arith))) (h n (omega arith))

pub or_alike : (f g : ℕ → ℕ) (n : ℕ) → ((i : ℕ) → i < n → f i ≡ g i) → or_of f n ≡ or_of g n
unfolding or_of
or_alike f g zero h = refl
or_alike f g (suc n) h = rw (or_alike f g n (λ i l. h i (omega arith)), h n (omega arith))

-- of the n numbers of a list from a place on, as a part of it is read

module _ (b : List ℕ) (at n : ℕ) (h : at + n ≤ length b) where
  pub part_long : length (mid_of at n b) ≡ n
  part_long = length-take-le n (drop at b) (omega (arith, length-drop at b))

  pub or_part : (f : ℕ → ℕ) → or_of (λ i. f (entry (mid_of at n b) i)) (length (mid_of at n b)) ≡ or_of (λ i. f (entry b (at + i))) n
  or_part f =
      ap (or_of (λ i. f (entry (mid_of at n b) i))) part_long
      ∙ or_alike (λ i. f (entry (mid_of at n b) i)) (λ i. f (entry b (at + i))) n (λ i l. ap f (get_or-take n (drop at b) i 0 l ∙ get_or-drop at b i 0))

-- only those from n on count

pub or_past : (f : ℕ → ℕ) (n k : ℕ) → or_of (λ i. cond (ltb i n) 0 (f i)) (n + k) ≡ or_of (λ i. f (n + i)) k
unfolding or_of
or_past f n zero = rw add-zero (faultless (λ i. cond (ltb i n) 0 (f i)) n (λ i l. rw (lt-ltb i n l)))
or_past f n (suc k) =
    let e : n + suc k ≡ suc (n + k) = omega arith in
    let m : n ≤ n + k = omega arith in
    rw (e, or_past f n k, le-ltb (n + k) n m)
