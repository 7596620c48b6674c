-- What the loops over sixteen rows compute: sets of rows, folds, and arrays changed in place. Assumes nothing.
use Rattle.std.specs.Prelude.{ℕ, zero, suc, ◌^◌, Bool, cond, List, [], ◌∷◌, Option, None, Some, bit_or, nat_le, nat_lt}
use Rattle.std.specs.Bool.{then_some}
use Rattle.rules.specs.Tick.{bit}
use Rattle.state.specs.Meaning.{entry, wrapped}
use Rattle.state.specs.Sets.{least}
use Rattle.dispatch.specs.declared.sets.Best.{Best}

-- the rows below k that pass the test
unfoldable pub rows_that : (ℕ → Bool) → ℕ → ℕ
rows_that p zero = 0
rows_that p (suc k) = bit_or (rows_that p k) (cond (p k) (2 ^ k) 0)

-- f told each of the positions i, i + 1, .., k of them
unfoldable pub fold_rows : {B : Type 0} → (ℕ → B → B) → ℕ → ℕ → B → B
fold_rows f i zero b = b
fold_rows f i (suc k) b = fold_rows f (suc i) k (f i b)

-- the first n elements changed by f, which is told their positions
unfoldable pub upto : {A : Type 0} → (ℕ → A → A) → ℕ → List A → List A
upto f zero l = l
upto f (suc n) [] = []
upto f (suc n) (x ∷ xs) = f 0 x ∷ upto (λ i. f (suc i)) n xs

-- v at the rows of the set
abbrev pub marked : ℕ → ℕ → ℕ → ℕ → ℕ
marked set v i x = cond (bit set i) v x

-- the stamp of the row is at least so many ticks ago
abbrev pub aged_at : List ℕ → List ℕ → ℕ → ℕ → Bool
aged_at ticks stamp clock i = nat_le (entry ticks i) (wrapped clock (entry stamp i))

-- the lowest row of the set
abbrev pub lowest_in : ℕ → Option ℕ
lowest_in set = then_some (nat_lt (least set) 16) (least set)

-- the better of the row and the best so far; a rank is a byte
abbrev pub better : ℕ → ℕ → Option Best → Option Best
better rank i None = cond (nat_lt rank 256) (Some (record { rank = rank; row = i })) None
better rank i (Some best) = Some (cond (nat_lt rank best.rank) (record { rank = rank; row = i }) best)

-- the row at i, if it is in the set
abbrev pub low_at : List ℕ → ℕ → ℕ → Option Best → Option Best
low_at rank set i best = cond (bit set i) (better (entry rank i) i best) best
