-- `table::scan::ScannedFile::rows` meets its contract. The invariant: each column holds the first i rows, and at is where the field at i starts. Assumes nothing.
use Rattle.std.proofs.Common.{ℕ, ◌≡◌, ◌≤◌, ap, ◌∙◌, arith, drop, length}
use mathlib.Core.List.{map}
use Rattle.rules.specs.File.{Field, field_of}
use Rattle.table.specs.Memory.{fill}
use Rattle.table.specs.Walk.{fields_in, start_of}
use Rattle.table.specs.declared.row.FileRows.{FileRows}
use Rattle.table.proofs.Files.{file_fields}
use Rattle.table.proofs.Places.{length_indexed}
use Rattle.table.proofs.Rows.{column_more, columns_table}
use Rattle.table.proofs.Walked.{start_next}
use Rattle.table.proofs.scan.ScannedFile.rows.Goals as goal

pub loop-i-preserved : goal.loop-i-preserved
loop-i-preserved c =
    let l = c.loop-i in
    let s = c.args.self.bytes.now in
    let field = c.file_row_at-field.ensures ∙ ap (λ (at : ℕ). field_of (drop at s)) l.invariant.0 in (
      start_next s l.i l.at c.field_size-at.result l.invariant.0 c.field_size-at.ensures,
      column_more (λ f. f.tag) s l.i _ l.invariant.1 (omega arith) (ap (λ (f : Field). f.tag) field),
      column_more (λ f. f.row.C) s l.i _ l.invariant.2 (omega arith) (ap (λ (f : Field). f.row.C) field),
      column_more (λ f. f.row.D) s l.i _ l.invariant.3 (omega arith) (ap (λ (f : Field). f.row.D) field),
      column_more (λ f. f.row.T) s l.i _ l.invariant.4 (omega arith) (ap (λ (f : Field). f.row.T) field),
      column_more (λ f. f.row.rank) s l.i _ l.invariant.5 (omega arith) (ap (λ (f : Field). f.row.rank) field),
      column_more (λ f. f.row.M) s l.i _ l.invariant.6 (omega arith) (ap (λ (f : Field). f.row.M) field),
    )

pub returns : goal.returns
returns c =
    let l = c.loop-i in
    let s = c.args.self.bytes.now in
    let n = c.args.self.n in
    let all : l.i ≡ n = omega arith in
    let table = columns_table s l.i n all l.invariant.2 l.invariant.3 l.invariant.4 l.invariant.5 l.invariant.6 in
    let tags = l.invariant.1 ∙ ap (λ (k : ℕ). fill 16 (map (λ (f : Field). f.tag) (fields_in s k))) all in
    let few : length (fields_in s n) ≤ 16 = omega (arith, length_indexed (λ k. field_of (drop (start_of s k) s)) 0 n, c.args.self.few) in
    let rows : FileRows = record { table = record { n = n; c = l.c; d = l.d; t = l.t; rank = l.rank; m = l.m }; tag = l.tag; few = c.args.self.few } in
    record { fields = file_fields rows (fields_in s n) few table tags; table = table }
