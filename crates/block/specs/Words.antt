-- Little-endian numbers in a list of bytes: read at a place, and the bytes of a number and of an array. Assumes nothing.
use Rattle.std.specs.Prelude.{◌≡◌, ℕ, zero, suc, ◌+◌, ◌*◌, ◌/◌, ◌%◌, List, [], ◌∷◌, ◌++◌, length}
use Rattle.std.proofs.lemmas.List.Edits.{sets}
use Rattle.state.specs.Meaning.{entry, rows_from}

-- read

-- a number of w bytes from a place on
abbrev pub le : ℕ → List ℕ → ℕ → ℕ
le zero b at = 0
le (suc w) b at = entry b at + le w b (at + 1) * 256

-- n values from a place on, each read w bytes after the one before
abbrev pub numbers_at : {A : Type 0} → (List ℕ → ℕ → A) → ℕ → List ℕ → ℕ → ℕ → List A
numbers_at read w b at n = rows_from (λ i. read b (at + w * i)) 0 n

-- n numbers of w bytes each
abbrev pub les_at : ℕ → List ℕ → ℕ → ℕ → List ℕ
les_at w = numbers_at (le w) w

-- the bytes

-- the w bytes of a number below 2^(8 w), the low one first
abbrev pub le_bytes : ℕ → ℕ → List ℕ
le_bytes zero x = []
le_bytes (suc zero) x = x ∷ []
le_bytes (suc (suc w)) x = x % 256 ∷ le_bytes (suc w) (x / 256)

-- of numbers, one after the other
unfoldable pub joined : {A : Type 0} → (A → List ℕ) → List A → List ℕ
joined f [] = []
joined f (x ∷ xs) = f x ++ joined f xs

-- bytes put in a list, from a place up to another
pub record Put (was is bytes : List ℕ) (from to : ℕ) : Type 0 where
  pub stored : is ≡ sets was from bytes
  pub long : from + length bytes ≡ to
