-- Lists read off arrays, entry by entry: their total, and one more entry at the end. Assumes nothing.
use Rattle.std.proofs.Common.{◌≡◌, ℕ, zero, suc, ◌+◌, List, [], ◌∷◌, ◌++◌, refl, ap, ◌∙◌, add-zero, add-suc, suc-add, zero-add, arith}
use Rattle.rules.specs.Lists.{sum, total}
use Rattle.state.specs.Meaning.{rows_from}

module _ {A : Type 0} where
  pub last_rows : (g : ℕ → A) (i k : ℕ) → rows_from g i (suc k) ≡ rows_from g i k ++ (g (i + k) ∷ [])
  unfolding rows_from
  last_rows g i zero = rw add-zero
  last_rows g i (suc k) = ap (λ l. g i ∷ l) (rw (add-suc i k, ← suc-add i k) (last_rows g (suc i) k))

  total_last : (f : A → ℕ) (a : A) (l : List A) → total f (l ++ (a ∷ [])) ≡ total f l + f a
  total_last f a [] = omega arith
  total_last f a (b ∷ l) = omega (arith, total_last f a l)

  pub total_rows : (f : A → ℕ) (g : ℕ → A) (k : ℕ) → total f (rows_from g 0 k) ≡ sum k (λ j. f (g j))
  unfolding rows_from
  total_rows f g zero = refl
  total_rows f g (suc k) = ap (total f) (last_rows g 0 k) ∙ total_last f (g (0 + k)) (rows_from g 0 k) ∙ rw (total_rows f g k, zero-add)
