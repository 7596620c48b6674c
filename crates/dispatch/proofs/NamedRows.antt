-- Whatever the arrays hold, the rows that a tick's answer names are below 16. Assumes nothing.
use Rattle.std.proofs.Common.{◌≡◌, ℕ, zero, suc, ◌+◌, ◌<◌, ◌≤◌, Bool, true, false, cond, ltb, List, Option, None, Some, sym, refl, subst, arith, ltb-true}
use Rattle.std.specs.Prelude.{⊤}
use Rattle.std.specs.Option.{option_map_or}
use Rattle.rules.specs.Tick.{bit}
use Rattle.state.specs.declared.Last.{Last}
use Rattle.state.specs.declared.Last.TheVariants as ran
use Rattle.state.specs.declared.Rows.{Rows}
use Rattle.state.specs.declared.State.{State}
use Rattle.state.specs.Meaning.{entry}
use Rattle.state.specs.Sets.{least}
use Rattle.answer.specs.declared.Answer.{Answer}
use Rattle.answer.specs.declared.Closing.{Closing}
use Rattle.answer.specs.declared.Closing.TheVariants.{Firm, Hard, Nothing}
use Rattle.answer.specs.declared.How.{How}
use Rattle.answer.specs.declared.Notes.{Notes}
use Rattle.answer.specs.declared.Runner.TheVariants.{Firm, Hard, Soft}
use Rattle.answer.specs.declared.Band.TheVariants.{Upper}
use Rattle.answer.specs.Below.{AnswerBelow, ClosingBelow, RunnerBelow}
use Rattle.dispatch.specs.declared.sets.Best.{Best}
use Rattle.dispatch.specs.Loops.{better, fold_rows, low_at}
use Rattle.dispatch.specs.Steps.{chosen_in, closes_in, closing_after, closing_in, lower_of, promoted_rows, released_by, stepped_in, tick_in}

closing_below : (rows : Rows) (s : State) (d : Bool) → ClosingBelow (closing_in rows s d)
unfolding closing_after
closing_below rows s d = go s.last
  where
    row : (i : ℕ) (low : Bool) → ltb i 16 ≡ low → (how : Option How) → ClosingBelow (cond low (option_map_or (Hard i) how Nothing) Nothing)
    row i true e None = tt
    row i true e (Some how) = ltb-true i 16 e
    row i false e how = tt

    first : (how : Option How) → ClosingBelow (option_map_or (Firm (entry s.ticket 0)) how Nothing)
    first None = tt
    first (Some how) = tt

    go : (l : Last) → ClosingBelow (closing_after rows s d l)
    go (ran.Hard i) = row i (ltb i 16) refl (closes_in d (entry s.run i) (entry rows.table.c i))
    go ran.Firm = first (closes_in d (entry s.used 0) (entry s.budget 0))
    go ran.Nobody = tt

-- the best row so far, if there is one
abbrev BestBelow : Option Best → Type 0
BestBelow None = ⊤
BestBelow (Some best) = best.row < 16

low_below : (rank : List ℕ) (set i : ℕ) (best : Option Best) → i < 16 → BestBelow best → BestBelow (low_at rank set i best)
low_below rank set i best l h = go (bit set i) best h
  where
    lower : (b : Bool) (yet : Best) → yet.row < 16 → BestBelow (Some (cond b (record { rank = entry rank i; row = i }) yet))
    lower true yet h = l
    lower false yet h = h

    go : (among : Bool) (best : Option Best) → BestBelow best → BestBelow (cond among (better (entry rank i) i best) best)
    go true None h = first (ltb (entry rank i) 256)
      where
        first : (b : Bool) → BestBelow (cond b (Some (record { rank = entry rank i; row = i })) None)
        first true = l
        first false = tt
    go true (Some yet) h = lower (ltb (entry rank i) yet.rank) yet h
    go false best h = h

fold_below : (f : ℕ → Option Best → Option Best) → ((i : ℕ) (best : Option Best) → i < 16 → BestBelow best → BestBelow (f i best)) → (i k : ℕ) (best : Option Best) → i + k ≤ 16 → BestBelow best → BestBelow (fold_rows f i k best)
unfolding fold_rows
fold_below f keeps i zero best l h = h
fold_below f keeps i (suc k) best l h = fold_below f keeps (suc i) k (f i best) (omega arith) (keeps i best (omega arith) h)

lower_below : (best : Option Best) → BestBelow best → RunnerBelow (lower_of best)
lower_below None h = tt
lower_below (Some best) h = h

choice_below : (upper ticket : ℕ) (best : Option Best) → BestBelow best → (b : Bool) → ltb upper 16 ≡ b → (firm soft : Bool)
    → RunnerBelow (cond b (Hard upper Upper) (cond firm (Firm ticket) (cond soft Soft (lower_of best))))
choice_below upper ticket best h true e firm soft = ltb-true upper 16 e
choice_below upper ticket best h false e true soft = tt
choice_below upper ticket best h false e false true = tt
choice_below upper ticket best h false e false false = lower_below best h

chosen_below : (rows : Rows) (s : State) (soft : Bool) → RunnerBelow (chosen_in rows s soft)
chosen_below rows s soft =
    let low = low_at rows.table.rank s.«open» in
    let lowest = fold_below low (low_below rows.table.rank s.«open») 0 16 None (omega arith) tt in
    choice_below (least (promoted_rows rows s)) (entry s.ticket 0) (fold_rows low 0 16 None) lowest (ltb (least (promoted_rows rows s)) 16) refl (ltb 0 s.count) soft

stepped_below : (rows : Rows) (s : State) (set : ℕ) (soft : Bool) (c : Closing) (n : Notes) → ClosingBelow c → AnswerBelow (stepped_in rows s set soft c n).answer
unfolding stepped_in
stepped_below rows s set soft c n h = (chosen_below rows (released_by s set) soft, h)

tick_below : (rows : Rows) (s : State) (set : ℕ) (d soft : Bool) → AnswerBelow (tick_in rows s set d soft).answer
unfolding tick_in
tick_below rows s set d soft = stepped_below rows _ _ soft _ _ (closing_below rows s d)

-- what a tick answered
pub answer_below : (rows : Rows) (s : State) (set : ℕ) (d soft : Bool) {answer : Answer} → answer ≡ (tick_in rows s set d soft).answer → AnswerBelow answer
answer_below rows s set d soft e = subst AnswerBelow (sym e) (tick_below rows s set d soft)
