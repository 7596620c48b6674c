-- What stands in a list from a place on: parts, one behind the other. Assumes nothing.
use Rattle.std.proofs.Common.{◌≡◌, ℕ, ◌+◌, List, ◌++◌, length, drop, sym, ap, ◌∙◌, append_assoc, add_assoc, drop-drop, drop_at}

-- from a place on stands a part, and then the rest
pub record Stands (b : List ℕ) (at : ℕ) (part rest : List ℕ) : Type 0 where
  pub is : drop at b ≡ part ++ rest

-- what stands behind the part
pub behind : {b p q : List ℕ} {at n : ℕ} → Stands b at p q → length p ≡ n → drop (at + n) b ≡ q
behind {b} {p} {q} {at} {n} f l = sym (drop-drop n at b) ∙ ap (drop n) f.is ∙ drop_at p q n l

-- a part and the next one, as one
pub join : {b p q r : List ℕ} {at : ℕ} (next : ℕ) → Stands b at p (drop next b) → Stands b next q r → Stands b at (p ++ q) r
join {b} {p} {q} {r} next f g = record { is = f.is ∙ ap (λ l. p ++ l) g.is ∙ sym (append_assoc p q r) }

-- the same by their lengths
pub beside : {b p q : List ℕ} (at m n : ℕ) → Stands b at p (drop (at + m) b) → Stands b (at + m) q (drop (at + m + n) b) → Stands b at (p ++ q) (drop (at + (m + n)) b)
beside {b} at m n f g = rw (← add_assoc at m n) (join (at + m) f g)
