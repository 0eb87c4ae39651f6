use Rattle.std.proofs.Common.{◌≡◌, ◌∙◌, length, sym, ap, map, rules}
use Rattle.csv.specs.Records.{fields_of}
use Rattle.rr_trace.specs.Rows.{row_of_cells}
use Rattle.rr_trace.specs.View.{plain_header}
use Rattle.rr_trace.proofs.RowByRow.{row_ok, rows_pushed}
use Rattle.rr_trace.proofs.table.Table.read_row.Goals as goal

pub returns : goal.returns
returns c =
    let same : length (fields_of c.args.fields.now) ≡ length c.args.header.now.widths.items = search (rules, c.if-len.false) in (
      row_of_cells (plain_header c.args.header.now) c.read_cells.new.cells.items,
      row_ok (plain_header c.args.header.now) c.args.row (fields_of c.args.fields.now) c.read_cells.new.cells.items c.requires.row same (rw c.as_slice.ensures.value at c.in_ok-read_cells.ensures.value),
      rows_pushed (λ v. v.items) (λ v. v.items) c.args.self.now.inputs.items c.push.new.self.items c.args.self.now.expected.items c.push-2.new.self.items _ _ _ _ c.in_ok-push.ensures.items c.in_ok-push-2.ensures.items (rw (c.as_slice-2.ensures.value, c.as_slice-3.ensures.value) at c.in_ok-inputs.ensures) (rw (c.as_slice-4.ensures.value, c.as_slice-5.ensures.value) at c.in_ok-expected.ensures),
    )
