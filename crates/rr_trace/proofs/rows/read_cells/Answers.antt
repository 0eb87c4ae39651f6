use Rattle.std.proofs.Common.{◌≡◌, ◌∙◌, ◌<◌, sym, length, rules, arith}
use Rattle.csv.specs.Records.{fields_of}
use Rattle.rr_trace.proofs.CellByCell.{taken_more, taken_err, taken_all}
use Rattle.rr_trace.proofs.Faults.{refused}
use Rattle.rr_trace.proofs.rows.read_cells.Goals as goal

pub returns-in_err-cell-clause-value : goal.returns-in_err-cell-clause-value
returns-in_err-cell-clause-value c =
    let inside : c.loop-at.at < length (fields_of c.args.fields.now) = search rules in
    refused c.from_residual.result _ _ c.in_err-cell.field-0.0 c.from_residual.ensures.1
    (taken_err c.args.row c.args.widths.now (fields_of c.args.fields.now) c.loop-at.at c.loop-at.cells.items _ c.loop-at-test.true inside c.loop-at.invariant (rw c.field.ensures at (sym c.cell_at.ensures ∙ c.in_err-cell.was)))

pub loop-at-preserved : goal.loop-at-preserved
loop-at-preserved c =
    let inside : c.loop-at.at < length (fields_of c.args.fields.now) = search rules in
    rw c.in_ok-push.ensures.items
    (taken_more c.args.row c.args.widths.now (fields_of c.args.fields.now) c.loop-at.at c.loop-at.cells.items c.in_ok-cell.cell c.loop-at-test.true inside c.loop-at.invariant (rw c.field.ensures at (sym c.cell_at.ensures ∙ c.in_ok-cell.was)))

pub returns-clause-value : goal.returns-clause-value
returns-clause-value c = taken_all c.args.row c.args.widths.now (fields_of c.args.fields.now) c.loop-at.at c.loop-at.cells.items c.loop-at-test.false c.loop-at.invariant

pub returns-clause-count : goal.returns-clause-count
returns-clause-count c = search (rules, c.loop-at.invariant.count)
