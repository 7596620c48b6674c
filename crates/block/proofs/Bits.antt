-- Sets of positions as numbers: the positions below n, sets with the same bits, and the last runner. Assumes nothing.
use Rattle.std.proofs.Common.{◌≡◌, ℕ, zero, suc, ◌+◌, ◌-◌, ◌/◌, ◌%◌, ◌^◌, ◌<◌, ◌≤◌, true, false, ◌&&◌, eqb, sym, refl, ap, ◌∙◌, true≢false, lt_of_le_of_lt, add-zero, add-suc, arith, pow_pos, shr-shr}
use native.Mathlib.Decide.{dec_lt}
use native.Mathlib.Nat.{two-pow-succ, div-eq_of_lt-le}
use lib.Pow.{field, high, le_ones, mod-mod-pow, ones_lt, ones_split}
use lib.Dec.{eqb-suc-zero}
use Rattle.rules.specs.Tick.{bit}
use Rattle.state.specs.Sets.{known}
use Rattle.state.proofs.Bits.{bit_one, bit_past, half, two}
use Rattle.block.specs.Tests.{firm_mark, row_mark}

-- the positions below n

known_is : (n : ℕ) → n ≤ 16 → known n ≡ 2 ^ n - 1
known_is n h =
    let e : n + (16 - n) ≡ 16 = omega arith in
    ap (λ k. (2 ^ k - 1) / 2 ^ (16 - n)) (sym e) ∙ ap (λ x. x / 2 ^ (16 - n)) (ones_split n (16 - n)) ∙ high (2 ^ n - 1) (16 - n) (ones_lt (16 - n))

pub known_below : (n : ℕ) → n ≤ 16 → known n < 2 ^ n
known_below n h = rw (known_is n h) (ones_lt n)

-- a set holds only positions below n exactly when it is at most all of them

pub in_known : (n x i : ℕ) → n ≤ 16 → x ≤ known n → n ≤ i → bit x i ≡ false
in_known n x i h l m = bit_past n x i (lt_of_le_of_lt l (known_below n h)) m

one_of : (p x : ℕ) → 0 < p → p ≤ x → x < p + p → x / p ≡ 1
one_of p x a b c = div-eq_of_lt-le {k = 1} p (omega arith) (omega arith)

low_bits : (n m x : ℕ) → x < 2 ^ (n + m) → ((i : ℕ) → n ≤ i → bit x i ≡ false) → x < 2 ^ n
low_bits n zero x l h = rw (add-zero n) at l
low_bits n (suc m) x l h = low_bits n m x (go (dec_lt x (2 ^ (n + m)))) h
  where
    go : Dec (x < 2 ^ (n + m)) → x < 2 ^ (n + m)
    go (yes y) = y
    go (no w) =
        let one : x / 2 ^ (n + m) ≡ 1 = one_of (2 ^ (n + m)) x (pow_pos (n + m)) (omega arith) (rw (add-suc n m, two-pow-succ (n + m)) at l) in
        let t : bit x (n + m) ≡ true = rw one in
        absurd (true≢false (sym t ∙ h (n + m) (omega arith)))

pub known_in : (n x : ℕ) → n ≤ 16 → x < 2 ^ 16 → ((i : ℕ) → n ≤ i → bit x i ≡ false) → x ≤ known n
known_in n x h l z =
    let e : n + (16 - n) ≡ 16 = omega arith in
    rw (known_is n h) (le_ones n (low_bits n (16 - n) x (rw e l) z))

-- sets with the same positions below n

is_half : (x i : ℕ) → bit (x / 2) i ≡ bit x (suc i)
is_half x i = ap (λ k. eqb (k % 2) 1) (half x i)

over_one : (x : ℕ) → x / 1 ≡ x
over_one x = omega arith

digit : (x y : ℕ) → x < 2 → y < 2 → eqb x 1 ≡ eqb y 1 → x ≡ y
digit x y p q = two (λ a. eqb a 1 ≡ eqb y 1 → a ≡ y) x p (two (λ a. eqb 0 1 ≡ eqb a 1 → 0 ≡ a) y q (λ e. refl) (λ e. absurd (true≢false (sym e)))) (two (λ a. eqb 1 1 ≡ eqb a 1 → 1 ≡ a) y q (λ e. absurd (true≢false e)) (λ e. refl))

pub same_bits : (n x y : ℕ) → x < 2 ^ n → y < 2 ^ n → ((i : ℕ) → i < n → bit x i ≡ bit y i) → x ≡ y
same_bits zero x y p q e = omega arith
same_bits (suc n) x y p q e =
    let p2 = two-pow-succ n in
    let h = same_bits n (x / 2) (y / 2) (omega arith) (omega arith) (λ i l. is_half x i ∙ e (suc i) (omega arith) ∙ sym (is_half y i)) in
    let r = digit (x % 2) (y % 2) (omega arith) (omega arith) (rw (over_one x, over_one y) at (e 0 (omega arith))) in
    omega arith

-- the last runner as a set

low_half : (x i : ℕ) → i < 16 → bit (x % 2 ^ 16) i ≡ bit x i
low_half x i l =
    let e : 16 ≡ 15 - i + 1 + i = omega arith in
    ap (λ y. eqb (y % 2) 1) (ap (λ k. x % 2 ^ k / 2 ^ i) e ∙ field x (15 - i + 1) i) ∙ ap (λ y. eqb y 1) (mod-mod-pow (x / 2 ^ i) (15 - i) 1)

pub row_mark_lem : (last i : ℕ) → last ≤ 17 → i < 16 → bit (row_mark last) i ≡ eqb i last
row_mark_lem last i h l =
    let e : last % 32 ≡ last = omega arith in
    rw e (low_half (2 ^ last) i l ∙ bit_one last i)

pub firm_mark_lem : (last j : ℕ) → last ≤ 17 → bit (firm_mark last) j ≡ (eqb j 0 && eqb 16 last)
firm_mark_lem last zero h =
    let e : last % 32 ≡ last = omega arith in
    let y = 2 ^ last / 65536 in
    let q : y % 2 / 1 % 2 ≡ y / 1 % 2 = omega arith in
    rw e (ap (λ x. eqb x 1) q ∙ ap (λ x. eqb (x % 2) 1) (shr-shr (2 ^ last) 16 0) ∙ bit_one last 16)
firm_mark_lem last (suc j) h = bit_past 1 (firm_mark last) (suc j) (omega arith) (omega arith) ∙ rw (eqb-suc-zero j)
