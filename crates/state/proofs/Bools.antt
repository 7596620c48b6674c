-- Tests joined with a settled one, and a comparison turned round. Assumes nothing.
use Rattle.std.proofs.Common.{◌≡◌, ℕ, Bool, true, false, not, ◌||◌, ltb, leb, refl, ltb-false, ltb-true, le-leb}
use borrow.Author.Tests.{lt-leb}

pub or_yes : (b : Bool) → (b || true) ≡ true
or_yes true = refl
or_yes false = refl

pub leb_ltb : (a b : ℕ) → leb a b ≡ not (ltb b a)
leb_ltb a b = go (ltb b a) refl
  where
    go : (t : Bool) → ltb b a ≡ t → leb a b ≡ not t
    go true e = lt-leb a b (ltb-true b a e)
    go false e = le-leb a b (ltb-false b a e)
