-- `checks::table_good` meets its contract: what each part of the ranks has together is what the definition says of their places. Assumes nothing.
use Rattle.std.proofs.Common.{◌≡◌, ◌+◌, ◌-◌, ◌%◌, ◌^◌, ◌∙◌, ap, sym, arith, add_assoc}
use Rattle.state.specs.Meaning.{entry}
use Rattle.block.specs.Places.{rank_at}
use Rattle.block.specs.Tests.{or_of, past_fault, rank_bit}
use Rattle.block.proofs.Ors.{or_alike, or_part, or_past}
use Rattle.block.proofs.checks.table_good.Goals as goal

pub returns : goal.returns
returns c =
    let b = c.args.b.now in
    let n = c.args.n in
    let all : n + (16 - n) ≡ 16 = omega arith in
    let left : 256 - (rank_at + n) ≡ 16 - n = omega arith in
    let rows : rank_at + n - rank_at ≡ n = omega arith in
    let once : c.all_marks.result ≡ or_of (rank_bit b) n = c.all_marks.ensures ∙ or_part b rank_at (rank_at + n - rank_at) (omega arith) (λ x. 2 ^ (x % 32)) ∙ ap (or_of (rank_bit b)) rows in
    let low = c.all_bits-low.ensures ∙ or_part b rank_at 16 (omega arith) (λ x. x) in
    let past : or_of (past_fault b n) 16 ≡ or_of (λ i. entry b (rank_at + (n + i))) (16 - n) = rw all at (or_past (λ i. entry b (rank_at + i)) n (16 - n)) in
    let blank : c.all_bits-blank.result ≡ or_of (past_fault b n) 16 =
    c.all_bits-blank.ensures ∙ or_part b (rank_at + n) (256 - (rank_at + n)) (omega arith) (λ x. x) ∙ ap (or_of (λ i. entry b (rank_at + n + i))) left
    ∙ or_alike (λ i. entry b (rank_at + n + i)) (λ i. entry b (rank_at + (n + i))) (16 - n) (λ i h. ap (entry b) (add_assoc rank_at n i)) ∙ sym past in
    rw (once, low, blank, c.from.ensures, c.known_rows.ensures)
