use Rattle.std.proofs.Common.{◌≡◌, ◌∙◌, ◌+◌, true, false, sym, ap, inr, rules, arith}
use Rattle.csv.specs.Records.{fields_of}
use Rattle.rr_trace.specs.View.{plain_header}
use Rattle.rr_trace.proofs.Faults.{refused}
use Rattle.rr_trace.proofs.RowByRow.{going_none, going_more, going_err, going_all, too_many}
use Rattle.rr_trace.proofs.table.read_rows.Goals as goal

pub loop-row-init : goal.loop-row-init
loop-row-init c all h = rw (c.new.ensures.items, c.new-2.ensures.items) (going_none _ all _ h)

pub returns-then-not-branch : goal.returns-then-not-branch
returns-then-not-branch c all h =
    let g = c.loop-row.invariant all h in
    let none : c.in_ok-next.field-0 ≡ false = search (rules, c.if-not-branch.true) in
    (g.have, going_all _ all _ _ _ _ _ g (rw none at (c.in_ok-next.ensures g.rest g.coming)), g.same)

pub returns-in_err-read_row : goal.returns-in_err-read_row
returns-in_err-read_row c all h =
    let g = c.loop-row.invariant all h in
    let some : c.in_ok-next.field-0 ≡ true = search (rules, c.if-not-branch.false) in
    refused c.from_residual-in_err-read_row.result _ _ c.in_err-read_row.field-0.0 c.from_residual-in_err-read_row.ensures.1
    (going_err _ all _ _ _ _ _ _ g (rw some at (c.in_ok-next.ensures g.rest g.coming)) c.in_err-read_row.ensures)

pub loop-row-preserved : goal.loop-row-preserved
loop-row-preserved c all h =
    let g = c.loop-row.invariant all h in
    let some : c.in_ok-next.field-0 ≡ true = search (rules, c.if-not-branch.false) in
    let read = c.in_ok-read_row.ensures in
    going_more _ all _ _ _ _ _ _ read.0 g (rw some at (c.in_ok-next.ensures g.rest g.coming)) read.1 read.2

pub returns-then-branch : goal.returns-then-branch
returns-then-branch c all h =
    let g = c.loop-row.invariant all h in
    let some : c.in_ok-next-2.field-0 ≡ true = search (rules, c.if-branch.true) in
    let last : c.loop-row.row ≡ 65537 = omega (arith, c.loop-row-test.false, c.loop-row.auto.row-end) in
    rw c.from.ensures (going_err _ all c.loop-row.row _ _ _ _ _ g (rw some at (c.in_ok-next-2.ensures g.rest g.coming)) (inr (rw last (too_many (plain_header c.args.header.now) (fields_of c.next-2.new.fields)))))

pub returns : goal.returns
returns c all h =
    let g = c.loop-row.invariant all h in
    let none : c.in_ok-next-2.field-0 ≡ false = search (rules, c.if-branch.false) in
    (g.have, going_all _ all _ _ _ _ _ g (rw none at (c.in_ok-next-2.ensures g.rest g.coming)), g.same)
