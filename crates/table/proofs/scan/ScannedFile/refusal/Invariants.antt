-- `table::scan::ScannedFile::refusal` meets its contract. The invariant: at is where the next field starts. Assumes nothing.
use Rattle.std.proofs.Common.{◌≡◌}
use Rattle.table.specs.Walk.{start_of}
use Rattle.table.proofs.scan.ScannedFile.refusal.Given as goal

abbrev pub invariant-loop : goal.invariant-loop
invariant-loop l = l.at ≡ start_of l.self.bytes.now l.counter
