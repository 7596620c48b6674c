-- `table::read_table` meets its contract: a broken file, or the rows of a whole one. Assumes nothing.
use Rattle.std.proofs.Common.{◌≡◌, ◌≤◌, sym, ap, ◌∙◌}
use Rattle.std.proofs.lemmas.Result.{err_from_is_err_and}
use Rattle.rules.specs.File.{whole, Scan, scan, read_scan, read}
use Rattle.table.specs.Walk.{RowFields, fields_in}
use Rattle.table.specs.Answers.{file_read, reading_of, scan_row}
use Rattle.table.proofs.Files.{scan_whole, scan_broken}
use Rattle.table.proofs.read_table.Goals as goal
use Rattle.table.proofs.read_table.Goals.{In_ok-n}

-- the file that was scanned whole

file : (c : In_ok-n) → let s = c.args.s.now in (c.in_ok-n.n ≤ 16) × RowFields s c.in_ok-n.n × (scan 16 0 s ≡ whole (fields_in s c.in_ok-n.n))
file c = scan_whole _ _ (sym c.scan_fields.ensures ∙ c.in_ok-n.was)

pub invariant_of-read_rows : goal.invariant_of-read_rows
invariant_of-read_rows c =
    let h = file (goal.at.invariant_of-read_rows c).In_ok-n in
    record { few = h.0; stand = h.1 }

pub returns-in_err-n : goal.returns-in_err-n
unfolding read file_read
returns-in_err-n c =
    let p = err_from_is_err_and c.from_residual.result c.from_residual.ensures.1 in
    rw (p.1, p.2) (sym (scan_broken (scan 16 0 c.args.s.now) (sym c.scan_fields.ensures ∙ c.in_err-n.was)))

pub returns : goal.returns
unfolding read file_read
returns c = c.read_rows.ensures ∙ ap (λ (x : Scan). reading_of (scan_row x) (read_scan x)) (sym (file (goal.at.returns c).In_ok-n).2)
