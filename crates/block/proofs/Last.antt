-- The number of the job that ran last, and the job of a number. Assumes nothing.
use Rattle.std.proofs.Common.{◌≡◌, ℕ, ◌%◌, ◌≤◌, Bool, true, false, cond, eqb, ltb, refl, arith, lt-ltb, ltb-true, ltb-false, eqb-true}
use borrow.Author.Tests.{eqb-false}
use Rattle.state.specs.declared.Last.{Last}
use Rattle.state.specs.declared.Last.TheVariants.{Hard, Firm, Nobody}
use Rattle.state.specs.Meaning.{LastBelow}
use Rattle.block.specs.Layout.{last_named, last_number}

pub number_low : (l : Last) → LastBelow l → last_number l ≤ 17
number_low (Hard i) h = omega arith
number_low Firm h = omega arith
number_low Nobody h = omega arith

pub named_below : (k : ℕ) → LastBelow (last_named k)
named_below k = go (ltb k 16) refl (eqb k 16)
  where
    go : (a : Bool) → ltb k 16 ≡ a → (x : Bool) → LastBelow (cond a (Hard k) (cond x Firm Nobody))
    go true e x = ltb-true k 16 e
    go false e true = tt
    go false e false = tt

-- a byte keeps it
pub named_back : (l : Last) → LastBelow l → last_named (last_number l % 256) ≡ l
named_back (Hard i) h = let e : i % 256 ≡ i = omega arith in rw (e, lt-ltb i 16 h)
named_back Firm h = refl
named_back Nobody h = refl

pub number_back : (k : ℕ) → k ≤ 17 → last_number (last_named k) ≡ k
number_back k h = go (ltb k 16) refl (eqb k 16) refl
  where
    go : (a : Bool) → ltb k 16 ≡ a → (x : Bool) → eqb k 16 ≡ x → last_number (cond a (Hard k) (cond x Firm Nobody)) ≡ k
    go true e x q = refl
    go false e true q = omega (arith, eqb-true k 16 q)
    go false e false q = omega (arith, ltb-false k 16 e, eqb-false k 16 q)
