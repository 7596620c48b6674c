-- `plan::show` meets its contract: what was read has at most sixteen rows. Assumes nothing.
use Rattle.table.proofs.Files.{read_few}
use Rattle.std.proofs.Common.{sym}
use Rattle.plan.proofs.show.Goals as goal

pub print_rows-requires : goal.print_rows-requires
print_rows-requires g c = read_few _ (sym c.in-Ok.ensures)
