-- `table::scan::ScannedFile::rows` meets its contract. The invariant: each column holds the first i rows, and at is where the field at i starts. Assumes nothing.
use Rattle.std.proofs.Common.{◌≡◌}
use Rattle.table.specs.Walk.{start_of}
use Rattle.table.proofs.Rows.{Column}
use Rattle.table.proofs.scan.ScannedFile.rows.Given as goal

abbrev pub invariant-loop-i : goal.invariant-loop-i
invariant-loop-i l = (l.at ≡ start_of l.self.bytes.now l.i)
    × Column (λ f. f.tag) l.self.bytes.now l.i l.tag
    × Column (λ f. f.row.C) l.self.bytes.now l.i l.c
    × Column (λ f. f.row.D) l.self.bytes.now l.i l.d
    × Column (λ f. f.row.T) l.self.bytes.now l.i l.t
    × Column (λ f. f.row.rank) l.self.bytes.now l.i l.rank
    × Column (λ f. f.row.M) l.self.bytes.now l.i l.m
