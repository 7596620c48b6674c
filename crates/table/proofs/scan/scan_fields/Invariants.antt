-- `table::scan::scan_fields` meets its contract. The invariant: the scan of the whole file is n rows and the scan of what is left. The measure is how many fields may come. Assumes nothing.
use Rattle.std.proofs.Common.{◌≡◌, ◌-◌, ◌≤◌, length, drop}
use Rattle.rules.specs.File.{scan}
use Rattle.table.specs.Answers.{scanned_of}
use Rattle.table.proofs.Fields.{after}
use Rattle.table.proofs.scan.scan_fields.Given as goal

abbrev pub invariant-loop-size : goal.invariant-loop-size
invariant-loop-size l = (l.n ≤ 16) × (l.at ≤ length l.s) × (scanned_of (scan 16 0 l.s) ≡ after l.n (scanned_of (scan (16 - l.n) l.at (drop l.at l.s))))

abbrev pub decreases-loop-size : goal.decreases-loop-size
decreases-loop-size l = 17 - l.n
