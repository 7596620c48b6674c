-- Ranks used by earlier rows, by the column of ranks. Assumes nothing.
use Prim.Native.Nat.{ℕ, zero, suc, ◌≤◌}
use mathlib.Core.Path.{◌≡◌, refl, ap, ◌∙◌}
use mathlib.Core.Bool.{Bool, ◌||◌}
use mathlib.Core.List.{List, [], ◌∷◌}
use native.Mathlib.Omega.{arith}
use lib.Dec.{eqb}
use lib.ListN.{get_or, length, take}
use lib.Seq.{take-suc}
use Rattle.std.proofs.Math.Bool.{or_comm, or-false}
use Rattle.std.specs.List.{list_any}
use Rattle.std.proofs.lemmas.List.Folds.{list_any-append}
use Rattle.rules.specs.Lists.{any}
use Rattle.rules.specs.Rows.{Row, used}
use Rattle.table.specs.Memory.{above_of}
use Rattle.table.specs.declared.Table.{Table}

-- the test does not ask for the position
any_anywhere : {A : Type 0} (t : A → Bool) (i j : ℕ) (l : List A) → any (λ k a. t a) i l ≡ any (λ k a. t a) j l
any_anywhere t i j [] = refl
any_anywhere t i j (a ∷ l) = ap (λ (b : Bool). t a || b) (any_anywhere t (suc i) (suc j) l)

-- one of the first i ranks is this one
pub ranks_used : (tb : Table) (rank i : ℕ) → i ≤ length tb.rank → list_any (λ y. eqb y rank) (take i tb.rank) ≡ used rank (above_of tb i)
ranks_used tb rank zero h = refl
ranks_used tb rank (suc i) h =
    ap (list_any (λ y. eqb y rank)) (take-suc tb.rank i 0 (omega arith))
    ∙ list_any-append (λ y. eqb y rank) (take i tb.rank) (get_or tb.rank i 0 ∷ [])
    ∙ or_comm (list_any (λ y. eqb y rank) (take i tb.rank)) (list_any (λ y. eqb y rank) (get_or tb.rank i 0 ∷ []))
    ∙ ap (λ (b : Bool). b || list_any (λ y. eqb y rank) (take i tb.rank)) (or-false (eqb (get_or tb.rank i 0) rank))
    ∙ ap (λ (b : Bool). eqb (get_or tb.rank i 0) rank || b) (ranks_used tb rank i (omega arith) ∙ any_anywhere (λ (r : Row). eqb r.rank rank) 0 1 (above_of tb i))
