-- `offer::offer` meets its contract: an offer that passes the four checks is given the next ticket. Assumes nothing.
use Rattle.std.proofs.Common.{◌≡◌, ℕ, ◌+◌, ◌<◌, ◌≤◌, sym, ap, arith, le-ltb, le-leb, ne_eqb}
use borrow.Author.Tests.{lt-leb}
use Rattle.state.specs.declared.Rows.{Rows}
use Rattle.state.specs.declared.State.{State}
use Rattle.offer.specs.Steps.{claims_of, offer_made, ticket_for, unrun_of}
use Rattle.offer.proofs.offer.Goals as goal

passed : (rows : Rows) (s : State) (B d : ℕ) → (B ≡ 0 → ⊥) → B ≤ d → s.count < 8 → claims_of rows s d + (B + unrun_of s) ≤ d → offer_made rows s B d ≡ ticket_for s B
unfolding offer_made
passed rows s B d some in_d room fits = rw (ne_eqb _ _ some, le-ltb _ _ in_d, lt-leb _ _ room, le-leb _ _ fits)

pub returns-clause-value : goal.returns-clause-value
returns-clause-value c =
    let a = c.args in
    sym (ap (λ made. made.offered) (passed a.rows.now a.s.now a.budget a.deadline (omega arith) (omega arith) (omega arith) (omega arith)))
