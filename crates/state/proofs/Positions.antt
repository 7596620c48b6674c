-- Lists made by position, under the functions that the rules walk them with. Assumes nothing.
use Rattle.std.proofs.Common.{◌≡◌, ℕ, zero, suc, ◌+◌, ◌^◌, ◌<◌, ◌≤◌, Bool, true, false, cond, ◌&&◌, ◌||◌, eqb, ◌∷◌, map, length, sym, refl, ap, ◌∙◌, ap₂, inl, inr, le_of_suc-le-suc, not-suc-le-zero, add-zero, add-suc, suc-add, arith, eq-eqb, ne_eqb, ltb, ltb-false, ltb-true}
use Rattle.std.proofs.Math.Bool.{or-false}
use mathlib.Core.Option.{none, some}
use native.Mathlib.Decide.{dec_le, dec_lt}
use lib.ListN.{get_elem?}
use Rattle.rules.specs.Lists.{All, any, each, find, first_of}
use Rattle.rules.specs.Tick.{bit}
use Rattle.rules.proofs.Walks.{Holds}
use Rattle.state.specs.Meaning.{rows_from}
use Rattle.state.specs.Sets.{least}
use Rattle.state.proofs.Bits.{found, least_below, least_in}

module _ {A : Type 0} where
  pub length_rows : (g : ℕ → A) (i k : ℕ) → length (rows_from g i k) ≡ k
  unfolding rows_from
  length_rows g i zero = refl
  length_rows g i (suc k) = ap suc (length_rows g (suc i) k)

  pub first_row : (g : ℕ → A) (i k m : ℕ) → k ≡ suc m → rows_from g i k ≡ g i ∷ rows_from g (suc i) m
  unfolding rows_from
  first_row g i k m e = rw e

  pub elem_of : (g : ℕ → A) (i j k : ℕ) → j < k → get_elem? (rows_from g i k) j ≡ some (g (i + j))
  unfolding rows_from
  elem_of g i j zero h = absurd (omega arith)
  elem_of g i zero (suc k) h = rw (add-zero i) refl
  elem_of g i (suc j) (suc k) h = rw (add-suc i j, ← suc-add i j) (elem_of g (suc i) j k (omega arith))

  -- changed at every position
  pub each_rows : (h : ℕ → A → A) (g changed : ℕ → A) (i k : ℕ) → ((j : ℕ) → j < i + k → changed j ≡ h j (g j)) → rows_from changed i k ≡ each h i (rows_from g i k)
  unfolding rows_from
  each_rows h g changed i zero e = refl
  each_rows h g changed i (suc k) e = ap₂ (λ x xs. x ∷ xs) (e i (omega arith)) (each_rows h g changed (suc i) k (λ j l. e j (omega arith)))

  -- moved by one position
  pub shift_rows : (g moved : ℕ → A) (i k : ℕ) → ((j : ℕ) → moved j ≡ g (suc j)) → rows_from moved i k ≡ rows_from g (suc i) k
  unfolding rows_from
  shift_rows g moved i zero e = refl
  shift_rows g moved i (suc k) e = ap₂ (λ x xs. x ∷ xs) (e i) (shift_rows g moved (suc i) k e)

  pub same_rows : (g same : ℕ → A) (i k : ℕ) → ((j : ℕ) → i ≤ j → j < i + k → same j ≡ g j) → rows_from same i k ≡ rows_from g i k
  unfolding rows_from
  same_rows g same i zero e = refl
  same_rows g same i (suc k) e = ap₂ (λ x xs. x ∷ xs) (e i (omega arith) (omega arith)) (same_rows g same (suc i) k (λ j l h. e j (omega arith) (omega arith)))

  pub map_rows : {B : Type 0} (h : A → B) (g : ℕ → A) (i k : ℕ) → map h (rows_from g i k) ≡ rows_from (λ j. h (g j)) i k
  unfolding rows_from
  map_rows h g i zero = refl
  map_rows h g i (suc k) = ap (λ xs. h (g i) ∷ xs) (map_rows h g (suc i) k)

  pub all_rows : (P : A → Type 0) (g : ℕ → A) (i k : ℕ) → All P (rows_from g i k) → (j : ℕ) → i ≤ j → j < i + k → P (g j)
  unfolding rows_from
  all_rows P g i zero p j l h = absurd (omega arith)
  all_rows P g i (suc k) (p, ps) j l h = go (dec_le (suc i) j) (λ m. all_rows P g (suc i) k ps j m (omega arith))
    where
      go : Dec (suc i ≤ j) → (suc i ≤ j → P (g j)) → P (g j)
      go (yes m) ih = ih m
      go (no m) ih = let e : i ≡ j = omega arith in rw (sym e) p

  pub rows_all : (P : A → Type 0) (g : ℕ → A) (i k : ℕ) → ((j : ℕ) → i ≤ j → j < i + k → P (g j)) → All P (rows_from g i k)
  unfolding rows_from
  rows_all P g i zero p = tt
  rows_all P g i (suc k) p = (p i (omega arith) (omega arith), rows_all P g (suc i) k (λ j l h. p j (omega arith) (omega arith)))

  pub holds_rows : (P : A → Type 0) (g : ℕ → A) (m i k : ℕ) → Holds P m i (rows_from g i k) → (m < i + k) × P (g m)
  unfolding rows_from
  holds_rows P g m i zero x = absurd x
  holds_rows P g m i (suc k) (inl (e, p)) = (omega arith, rw (sym e) p)
  holds_rows P g m i (suc k) (inr x) = let r = holds_rows P g m (suc i) k x in (omega (arith, r.0), r.1)

  -- the test of one position

  past : (t : A → Bool) (g : ℕ → A) (m i k : ℕ) → m < i → any (λ j a. eqb j m && t a) i (rows_from g i k) ≡ false
  unfolding rows_from
  past t g m i zero l = refl
  past t g m i (suc k) l = rw (ne_eqb i m (λ z. omega arith)) (past t g m (suc i) k (omega arith))

  pub any_rows : (t : A → Bool) (g : ℕ → A) (m i k : ℕ) → i ≤ m → m < i + k → any (λ j a. eqb j m && t a) i (rows_from g i k) ≡ t (g m)
  unfolding rows_from
  any_rows t g m i zero l h = absurd (omega arith)
  any_rows t g m i (suc k) l h = go (dec_le (suc i) m) (λ q. any_rows t g m (suc i) k q (omega arith))
    where
      go : Dec (suc i ≤ m) → (suc i ≤ m → any (λ j a. eqb j m && t a) (suc i) (rows_from g (suc i) k) ≡ t (g m)) → ((eqb i m && t (g i)) || any (λ j a. eqb j m && t a) (suc i) (rows_from g (suc i) k)) ≡ t (g m)
      go (yes q) ih = rw (ne_eqb i m (λ z. omega arith)) (ih q)
      go (no q) ih = let e : i ≡ m = omega arith in rw (eq-eqb i m e, e, past t g m (suc m) k (omega arith)) (or-false (t (g m)))

  -- the first that passes a test

  find_first : (t : ℕ → A → Bool) (g : ℕ → A) (i k : ℕ) → find t i (rows_from g i k) ≡ first_of (λ j. t j (g j)) i k
  unfolding rows_from
  find_first t g i zero = refl
  find_first t g i (suc k) = rw (find_first t g (suc i) k)

first_none : (p : ℕ → Bool) (i k : ℕ) → ((j : ℕ) → i ≤ j → j < i + k → p j ≡ false) → first_of p i k ≡ none
first_none p i zero clear = refl
first_none p i (suc k) clear = rw (clear i (omega arith) (omega arith), first_none p (suc i) k (λ j l h. clear j (omega arith) (omega arith)))

first_short : (p q : ℕ → Bool) (i k m : ℕ) → k ≤ m → ((j : ℕ) → i ≤ j → j < i + k → q j ≡ p j) → ((j : ℕ) → i + k ≤ j → j < i + m → q j ≡ false) → first_of q i m ≡ first_of p i k
first_short p q i zero m l same clear = first_none q i m (λ j a b. clear j (omega arith) b)
first_short p q i (suc k) zero l same clear = absurd (not-suc-le-zero l)
first_short p q i (suc k) (suc m) l same clear =
    rw (same i (omega arith) (omega arith), first_short p q (suc i) k m (le_of_suc-le-suc l) (λ j a b. same j (omega arith) (omega arith)) (λ j a b. clear j (omega arith) (omega arith)))

first_at : (p : ℕ → Bool) (i n k : ℕ) → i ≤ k → k < i + n → ((j : ℕ) → i ≤ j → j < k → p j ≡ false) → p k ≡ true → first_of p i n ≡ some k
first_at p i zero k l h clear here = absurd (omega arith)
first_at p i (suc n) k l h clear here = go (dec_lt i k) (λ m. first_at p (suc i) n k m (omega arith) (λ j a b. clear j (omega arith) b) here)
  where
    go : Dec (i < k) → (i < k → first_of p (suc i) n ≡ some k) → cond (p i) (some i) (first_of p (suc i) n) ≡ some k
    go (yes m) ih = rw (clear i (omega arith) m) (ih m)
    go (no m) ih = let e : i ≡ k = omega arith in rw (e, here)

-- the first row of a set is its lowest
first_least : (x : ℕ) → x < 2 ^ 16 → first_of (bit x) 0 16 ≡ found (least x)
first_least x small = go (ltb (least x) 16) refl
  where
    go : (b : Bool) → ltb (least x) 16 ≡ b → first_of (bit x) 0 16 ≡ cond b (some (least x)) none
    go true e = let l = ltb-true (least x) 16 e in first_at (bit x) 0 16 (least x) (omega arith) l (λ j a b. least_below x j small b) (least_in x small l)
    go false e = let l = ltb-false (least x) 16 e in first_none (bit x) 0 16 (λ j a b. least_below x j small (omega arith))

-- the first of n rows is the lowest of a set of rows below n
pub find_least : {A : Type 0} (t : ℕ → A → Bool) (g : ℕ → A) (x n : ℕ) → x < 2 ^ 16 → n ≤ 16 → ((j : ℕ) → j < n → bit x j ≡ t j (g j)) → ((j : ℕ) → n ≤ j → bit x j ≡ false)
    → find t 0 (rows_from g 0 n) ≡ found (least x)
find_least t g x n small h is past =
    find_first t g 0 n
    ∙ sym (first_short (λ j. t j (g j)) (bit x) 0 n 16 h (λ j a b. is j (omega arith)) (λ j a b. past j (omega arith)))
    ∙ first_least x small
