-- `table::faults::bad_rank` meets its contract: the test of n, then the search. Assumes nothing.
use Rattle.std.proofs.Common.{◌<◌, ◌∙◌, arith, get_or}
use borrow.Author.Tests.{lt-leb}
use Rattle.table.proofs.Ranks.{ranks_used}
use Rattle.table.proofs.faults.bad_rank.Goals as goal

pub returns-else-tb-from : goal.returns-else-tb-from
returns-else-tb-from c =
    let tb = c.args.tb in
    let h : get_or tb.rank c.args.i 0 < tb.n = omega arith in
    simp (lt-leb _ _ h) (c.contains.ensures.value ∙ ranks_used tb (get_or tb.rank c.args.i 0) c.args.i (omega arith))
