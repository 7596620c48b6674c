-- A number of w bytes: read at a place, its bytes, and how they answer to each other, for every width at once. Assumes nothing.
use Rattle.std.proofs.Common.{◌≡◌, ℕ, zero, suc, ◌+◌, ◌*◌, ◌/◌, ◌%◌, ◌^◌, ◌<◌, ◌≤◌, List, [], ◌∷◌, ◌++◌, length, drop, sym, refl, ap, ◌∙◌, ap₂, add_assoc, add-zero, add-one, arith, get_or-drop, drop-cons}
use Rattle.rules.specs.Tables.{Bytes}
use Rattle.rules.proofs.Fields.{byte_lt}
use Rattle.state.specs.Meaning.{entry}
use Rattle.block.specs.Words.{le, le_bytes}
use Rattle.block.proofs.Stands.{Stands, beside}

-- one list of bytes after the other
pub both : (xs ys : List ℕ) → Bytes xs → Bytes ys → Bytes (xs ++ ys)
both [] ys p q = q
both (x ∷ xs) ys (p, ps) q = (p, both xs ys ps q)

pub one_byte : (b : List ℕ) (k : ℕ) → le 1 b k ≡ entry b k
one_byte b k = omega arith

-- read at a place is read at the start of what stands there

pub entry_moved : (b : List ℕ) (at k : ℕ) → entry b (at + k) ≡ entry (drop at b) k
entry_moved b at k = sym (get_or-drop at b k 0)

pub moved : (w : ℕ) (b : List ℕ) (at k : ℕ) → le w b (at + k) ≡ le w (drop at b) k
moved zero b at k = refl
moved (suc w) b at k = ap₂ (λ x y. x + y * 256) (entry_moved b at k) (ap (le w b) (add_assoc at k 1) ∙ moved w b at (k + 1))

-- the bytes of a number

pub wide : (w x : ℕ) → length (le_bytes w x) ≡ w
wide zero x = refl
wide (suc zero) x = refl
wide (suc (suc w)) x = ap suc (wide (suc w) (x / 256))

pub clean : (w x : ℕ) → x < 256 ^ w → Bytes (le_bytes w x)
clean zero x h = tt
clean (suc zero) x h = (omega arith, tt)
clean (suc (suc w)) x h = (omega arith, clean (suc w) (x / 256) (omega arith))

pub back : (w x : ℕ) (q : List ℕ) → x < 256 ^ w → le w (le_bytes w x ++ q) 0 ≡ x
back zero x q h = omega arith
back (suc zero) x q h = omega arith
back (suc (suc w)) x q h =
    let all = x % 256 ∷ (le_bytes (suc w) (x / 256) ++ q) in
    let rest : le (suc w) all 1 ≡ x / 256 = moved (suc w) all 1 0 ∙ back (suc w) (x / 256) q (omega arith) in
    omega arith

-- what is read of bytes

module _ (b : List ℕ) (bytes : Bytes b) where
  pub below : (w k : ℕ) → le w b k < 256 ^ w
  below zero k = omega arith
  below (suc w) k = omega (arith, byte_lt b bytes k, below w (k + 1))

  first : (k : ℕ) → k + 1 ≤ length b → Stands b k (entry b k ∷ []) (drop (k + 1) b)
  first k h = record { is = rw (add-one, drop-cons b k 0 (omega arith)) }

  pub stands : (w k : ℕ) → k + w ≤ length b → Stands b k (le_bytes w (le w b k)) (drop (k + w) b)
  stands zero k h = record { is = rw add-zero }
  stands (suc zero) k h = rw (one_byte b k) (first k h)
  stands (suc (suc w)) k h =
      let x = byte_lt b bytes k in
      let low : le (suc (suc w)) b k % 256 ≡ entry b k = omega arith in
      let high : le (suc (suc w)) b k / 256 ≡ le (suc w) b (k + 1) = omega arith in
      let there = beside k 1 (suc w) (first k (omega arith)) (stands (suc w) (k + 1) (omega arith)) in
      let one : 1 + suc w ≡ suc (suc w) = omega arith in
      rw (low, high, ← one) there
