use Rattle.std.proofs.Common.{◌∙◌, ◌<◌, ◌≤◌, ap, length, map, refl, rules}
use Rattle.std.proofs.lemmas.List.{length-map}
use Rattle.csv.specs.Records.{fields_of}
use Rattle.rr_trace.specs.Columns.{trimmed}
use Rattle.rr_trace.specs.View.{plain_ports}
use Rattle.rr_trace.proofs.Faults.{refused}
use Rattle.rr_trace.proofs.Filling.{filled_none, columns_more, columns_err, filled_all}
use Rattle.rr_trace.proofs.header.read_columns.Goals as goal

pub loop-at-init : goal.loop-at-init
loop-at-init c = rw (c.new.ensures.items, c.new-2.ensures) (filled_none _ _)

pub returns-in_err-add-clause-widths : goal.returns-in_err-add-clause-widths
returns-in_err-add-clause-widths c =
    let inside : c.loop-at.at < length (fields_of c.args.fields.now) = search rules in
    refused c.from_residual.result _ _ c.in_err-add.field-0.0 c.from_residual.ensures.1
    (columns_err (plain_ports c.args.ports.now) (fields_of c.args.fields.now) c.loop-at.at _ _ _ _ _ inside refl (c.trimmed.ensures ∙ ap trimmed c.field.ensures) c.loop-at.invariant c.in_err-add.ensures)

pub loop-at-preserved : goal.loop-at-preserved
loop-at-preserved c =
    let inside : c.loop-at.at < length (fields_of c.args.fields.now) = search rules in
    let added = c.in_ok-add.ensures in
    rw added.2
    (columns_more (plain_ports c.args.ports.now) (fields_of c.args.fields.now) c.loop-at.at _ _ _ _ _ added.0 inside refl (c.trimmed.ensures ∙ ap trimmed c.field.ensures) c.loop-at.invariant added.1 added.3)

pub returns-clause-widths : goal.returns-clause-widths
returns-clause-widths c =
    let past : length (fields_of c.args.fields.now) ≤ c.loop-at.at = search rules in
    (filled_all (plain_ports c.args.ports.now) (map trimmed (fields_of c.args.fields.now)) c.loop-at.at _ _ (rw (length-map (fields_of c.args.fields.now) trimmed) past) c.loop-at.invariant).0
