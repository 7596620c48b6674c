-- Facts of the entries of arrays, and of the lists that are read off them. Assumes nothing.
use Rattle.std.proofs.Common.{◌≡◌, ℕ, zero, suc, ◌+◌, ◌<◌, ◌≤◌, Bool, List, ◌∷◌, length, ap, ◌∙◌, inl, inr, arith}
use native.Mathlib.Decide.{dec_lt}
use lib.ListN.{get_or-eq_default}
use Rattle.rules.specs.Station.{Slot}
use Rattle.rules.proofs.Facts.{AllRuns, Runs}
use Rattle.rules.proofs.Walks.{Holds}
use Rattle.state.specs.Meaning.{entry, rows_from}
use Rattle.state.proofs.Positions.{length_rows}

-- an entry of an array that is read

pub entry_rows : (g : ℕ → ℕ) (i k j : ℕ) → j < k → entry (rows_from g i k) j ≡ g (i + j)
unfolding rows_from
entry_rows g i zero j h = absurd (omega arith)
entry_rows g i (suc k) zero h = let e : i ≡ i + 0 = omega arith in ap g e
entry_rows g i (suc k) (suc j) h = let e : suc i + j ≡ i + suc j = omega arith in entry_rows g (suc i) k j (omega arith) ∙ ap g e

pub entry_is : (g : ℕ → ℕ) (k j : ℕ) → j < k → entry (rows_from g 0 k) j ≡ g j
entry_is g k j h = let e : 0 + j ≡ j = omega arith in entry_rows g 0 k j h ∙ ap g e

pub entry_out : (a : List ℕ) (n j : ℕ) → length a ≡ n → n ≤ j → entry a j ≡ 0
entry_out a n j e h = get_or-eq_default a 0 (omega arith)

pub entry_below : (g : ℕ → ℕ) (n m : ℕ) → 0 < m → ((j : ℕ) → g j < m) → (i : ℕ) → entry (rows_from g 0 n) i < m
entry_below g n m z h i = go (dec_lt i n)
  where
    go : Dec (i < n) → entry (rows_from g 0 n) i < m
    go (yes l) = rw (entry_is g n i l) (h i)
    go (no k) = rw (entry_out (rows_from g 0 n) n i (length_rows g 0 n) (omega arith)) z

-- at one position

module _ {A : Type 0} (g : ℕ → A) where
  pub rows_hold : (P : A → Type 0) (j i k : ℕ) → i ≤ j → j < i + k → P (g j) → Holds P j i (rows_from g i k)
  unfolding rows_from
  rows_hold P j i zero a b p = absurd (omega arith)
  rows_hold P j i (suc k) a b p = go (dec_lt i j) (λ l. rows_hold P j (suc i) k l (omega arith) p)
    where
      go : Dec (i < j) → (i < j → Holds P j (suc i) (rows_from g (suc i) k)) → Holds P j i (g i ∷ rows_from g (suc i) k)
      go (yes l) ih = inr (ih l)
      go (no n) ih = let e : i ≡ j = omega arith in inl (e, rw e p)

-- everywhere

module _ (g : ℕ → Slot) (ran : ℕ → Bool) where
  pub rows_run : (i k : ℕ) → ((j : ℕ) → i ≤ j → j < i + k → Runs (ran j) (g j)) → AllRuns ran i (rows_from g i k)
  unfolding rows_from
  rows_run i zero h = tt
  rows_run i (suc k) h = (h i (omega arith) (omega arith), rows_run (suc i) k (λ j a b. h j (omega arith) (omega arith)))
