-- Bytes stored one after another: a run of stores is stored in parts, and what it leaves of a list. Assumes nothing.
use Prim.Native.Nat.{ℕ, suc, ◌+◌, ◌≤◌}
use mathlib.Core.Path.{◌≡◌, ap, ◌∙◌}
use mathlib.Core.List.{List, [], ◌∷◌, ◌++◌}
use native.Mathlib.Nat.{zero-add}
use native.Mathlib.Omega.{arith}
use lib.ListN.{length, set, drop}
use lib.Seq.{sets, sets-eq}

-- two runs, the second where the first ends, are one
pub sets_append : (xs ys l : List ℕ) (at next : ℕ) → next ≡ at + length xs → sets (sets l at xs) next ys ≡ sets l at (xs ++ ys)
sets_append [] ys l at next e = let h : next ≡ at = omega arith in ap (λ (i : ℕ). sets l i ys) h
sets_append (x ∷ xs) ys l at next e = sets_append xs ys (set l at x) (suc at) next (omega arith)

-- the same of three states of a slice, from what two calls ensure
pub stored_then : (xs ys was : List ℕ) (at next : ℕ) {between is : List ℕ} → between ≡ sets was at xs → next ≡ at + length xs → is ≡ sets between next ys → is ≡ sets was at (xs ++ ys)
stored_then xs ys was at next p e q = q ∙ ap (λ (l : List ℕ). sets l next ys) p ∙ sets_append xs ys was at next e

-- a run from the start of a list leaves what stands after it
pub sets_front : (bytes l : List ℕ) → length bytes ≤ length l → sets l 0 bytes ≡ bytes ++ drop (length bytes) l
sets_front bytes l h = sets-eq bytes l 0 (omega arith) ∙ ap (λ (n : ℕ). bytes ++ drop n l) (zero-add (length bytes))
