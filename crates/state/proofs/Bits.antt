-- The bits of numbers: of both, of either, of the rest, of one row, of the rows below n, and the lowest. Assumes nothing.
use Rattle.std.proofs.Common.{◌≡◌, ℕ, zero, suc, ◌+◌, ◌-◌, ◌/◌, ◌^◌, ◌<◌, ◌≤◌, min, max, Bool, true, false, cond, not, ◌&&◌, ◌||◌, eqb, ltb, refl, ap, ◌∙◌, lt_of_lt_of_le, le_of_suc-le-suc, not-suc-le-zero, lt_of_le_of_lt, arith, lit<, pow_mono, pow_pos, shr-shr, ltb-false, ltb-true, eqb-true}
use Rattle.std.proofs.lemmas.Nat.Bits.{bit_at-lt, bit_at-pow_other, bit_at-pow_same, bit_at-trailing_zeros, bit_at-zero, bit_at_and, bit_at_not, bit_at_ones, bit_at_or, ones_shr}
use Rattle.std.specs.Int.{bit_at}
use mathlib.Core.Option.{Option, none, some}
use native.Mathlib.Nat.{div-eq_of_lt}
use lib.Bits.{bit_and, bit_or}
use lib.Count.{count_trailing_zeros}
use lib.Pow.{shr_le}
use mir.Syntax.{w16}
use borrow.Author.Tests.{eqb-false}
use Rattle.rules.specs.Tick.{bit}
use Rattle.state.specs.Sets.{known, least, others}

pub half : (x i : ℕ) → x / 2 / 2 ^ i ≡ x / 2 ^ suc i
half x i = let e : 1 + i ≡ suc i = omega arith in shr-shr x 1 i ∙ ap (λ k. x / 2 ^ k) e

-- a bit by cases
pub two : (P : ℕ → Type 0) (x : ℕ) → x < 2 → P 0 → P 1 → P x
two P zero h p q = p
two P (suc zero) h p q = q
two P (suc (suc x)) h p q = absurd (not-suc-le-zero (le_of_suc-le-suc (le_of_suc-le-suc h)))

-- the bits of sets

pub bit_of_and : (a b i : ℕ) → bit (bit_and a b) i ≡ (bit a i && bit b i)
bit_of_and a b i = rw (bit_at_and a b i) (two (λ x. eqb (min x (bit_at b i)) 1 ≡ (eqb x 1 && eqb (bit_at b i) 1)) (bit_at a i) (bit_at-lt a i) (by 0 refl refl) (by 1 refl refl))
  where
    by : (x : ℕ) → eqb (min x 0) 1 ≡ (eqb x 1 && false) → eqb (min x 1) 1 ≡ (eqb x 1 && true) → eqb (min x (bit_at b i)) 1 ≡ (eqb x 1 && eqb (bit_at b i) 1)
    by x = two (λ y. eqb (min x y) 1 ≡ (eqb x 1 && eqb y 1)) (bit_at b i) (bit_at-lt b i)

pub bit_of_or : (a b i : ℕ) → bit (bit_or a b) i ≡ (bit a i || bit b i)
bit_of_or a b i = rw (bit_at_or a b i) (two (λ x. eqb (max x (bit_at b i)) 1 ≡ (eqb x 1 || eqb (bit_at b i) 1)) (bit_at a i) (bit_at-lt a i) (by 0 refl refl) (by 1 refl refl))
  where
    by : (x : ℕ) → eqb (max x 0) 1 ≡ (eqb x 1 || false) → eqb (max x 1) 1 ≡ (eqb x 1 || true) → eqb (max x (bit_at b i)) 1 ≡ (eqb x 1 || eqb (bit_at b i) 1)
    by x = two (λ y. eqb (max x y) 1 ≡ (eqb x 1 || eqb y 1)) (bit_at b i) (bit_at-lt b i)

pub bit_others : (a i : ℕ) → a < 2 ^ 16 → i < 16 → bit (others a) i ≡ not (bit a i)
bit_others a i h l = rw (bit_at_not w16 a i h l) (two (λ x. eqb (1 - x) 1 ≡ not (eqb x 1)) (bit_at a i) (bit_at-lt a i) refl refl)

pub bit_one : (i j : ℕ) → bit (2 ^ i) j ≡ eqb j i
bit_one i j = go (eqb j i) refl
  where
    go : (b : Bool) → eqb j i ≡ b → bit (2 ^ i) j ≡ b
    go true e = rw (eqb-true j i e, bit_at-pow_same i)
    go false e = rw (bit_at-pow_other i j (eqb-false j i e))

pub bit_zero : (i : ℕ) → bit 0 i ≡ false
bit_zero i = rw (bit_at-zero i)

-- a number has no bits past its width
pub bit_past : (k a i : ℕ) → a < 2 ^ k → k ≤ i → bit a i ≡ false
bit_past k a i h l = let z : a / 2 ^ i ≡ 0 = div-eq_of_lt (lt_of_lt_of_le h (pow_mono l)) in rw z

pub known_lt : (n : ℕ) → known n < 2 ^ 16
known_lt n = lt_of_le_of_lt (shr_le 65535 (16 - n)) (lit< tt)

pub bit_known : (n i : ℕ) → n ≤ 16 → bit (known n) i ≡ ltb i n
bit_known n i h = let k : 16 - (16 - n) ≡ n = omega arith in rw (ones_shr 16 (16 - n) (omega arith), k) (go (ltb i n) refl)
  where
    go : (b : Bool) → ltb i n ≡ b → bit (2 ^ n - 1) i ≡ b
    go true e = rw (bit_at_ones n i (ltb-true i n e))
    go false e = bit_past n (2 ^ n - 1) i (omega (arith, pow_pos n)) (ltb-false i n e)

-- the lowest

pub least_below : (x j : ℕ) → x < 2 ^ 16 → j < least x → bit x j ≡ false
least_below zero j h l = bit_zero j
least_below (suc x) j h l = rw ((bit_at-trailing_zeros w16 (suc x) (omega arith) h).2 j l)

pub least_in : (x : ℕ) → x < 2 ^ 16 → least x < 16 → bit x (least x) ≡ true
unfolding count_trailing_zeros
least_in zero h l = let none_in : least 0 ≡ 16 = refl in absurd (omega arith)
least_in (suc x) h l = rw (bit_at-trailing_zeros w16 (suc x) (omega arith) h).1

-- the lowest row, if there is one
abbrev pub found : ℕ → Option ℕ
found k = cond (ltb k 16) (some k) none
