use Rattle.std.proofs.Common.{◌≡◌, ◌∙◌, true, false, sym, ap, inl, inr, rules}
use Rattle.std.specs.Str.{IsUtf8}
use Rattle.rr_trace.specs.Coming.{Follows}
use Rattle.rr_trace.specs.Tables.{records_of}
use Rattle.rr_trace.specs.View.{plain_ports}
use Rattle.rr_trace.proofs.Faults.{refused}
use Rattle.rr_trace.proofs.WholeTables.{no_text, a_text, of_no_text, no_header, bad_header, whole}
use Rattle.rr_trace.proofs.table.read_text.Goals as goal

pub returns-then-is_err : goal.returns-then-is_err
returns-then-is_err c = inr (of_no_text _ _ (no_text c.from_utf8.result _ _ _ c.from_utf8.ensures.cases (sym c.is_err.ensures.value ∙ c.if-is_err.true)))

pub returns-then-not-branch : goal.returns-then-not-branch
unfolding Follows
returns-then-not-branch c =
    let text : IsUtf8 c.args.text.now = a_text c.from_utf8.result _ _ _ c.from_utf8.ensures.cases (sym c.is_err.ensures.value ∙ c.if-is_err.false) in
    let none : c.in_ok-next.field-0 ≡ false = search (rules, c.if-not-branch.true) in
    inr (no_header _ c.args.text.now text (rw none at (c.in_ok-next.ensures (records_of c.args.text.now) c.records-reader.ensures)))

pub returns-in_err-header : goal.returns-in_err-header
unfolding Follows
returns-in_err-header c =
    let text : IsUtf8 c.args.text.now = a_text c.from_utf8.result _ _ _ c.from_utf8.ensures.cases (sym c.is_err.ensures.value ∙ c.if-is_err.false) in
    let some : c.in_ok-next.field-0 ≡ true = search (rules, c.if-not-branch.false) in
    let f = rw some at (c.in_ok-next.ensures (records_of c.args.text.now) c.records-reader.ensures) in
    refused c.from_residual-in_err-header.result _ _ c.in_err-header.field-0.0 c.from_residual-in_err-header.ensures.1 (bad_header _ c.args.text.now _ f.0 _ text f.1.0 c.in_err-header.ensures.value)

pub returns : goal.returns
unfolding Follows
returns c =
    let text : IsUtf8 c.args.text.now = a_text c.from_utf8.result _ _ _ c.from_utf8.ensures.cases (sym c.is_err.ensures.value ∙ c.if-is_err.false) in
    let some : c.in_ok-next.field-0 ≡ true = search (rules, c.if-not-branch.false) in
    let f = rw some at (c.in_ok-next.ensures (records_of c.args.text.now) c.records-reader.ensures) in
    whole _ c.args.text.now _ f.0 _ c.read_rows.result text f.1.0 c.in_ok-header.ensures.value (c.read_rows.ensures f.0 f.1.1)
