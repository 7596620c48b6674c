-- `table::scan::ScannedFile::refusal` meets its contract: the row counted from 1, and its whole field. Assumes nothing.
use Rattle.std.proofs.Common.{◌≡◌, ◌+◌, Some, ap, ◌∙◌, arith}
use Rattle.table.specs.Walk.{size_at, start_of}
use Rattle.table.proofs.scan.ScannedFile.refusal.Goals as goal

pub returns : goal.returns
returns c =
    let l = c.loop in
    let s = c.args.self.bytes.now in
    let x = c.args.x in
    let all : l.counter ≡ x.row = omega arith in
    let from = l.invariant ∙ ap (start_of s) all in
    λ i. record { why = x.why; row = Some (x.row + 1); part = record { from = from i; size = (c.field_size.ensures ∙ ap (size_at s) from) i } }
