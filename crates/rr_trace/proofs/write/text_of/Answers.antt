use Rattle.std.proofs.Common.{◌≡◌, ◌∙◌, ◌++◌, [], refl, rules}
use Rattle.csv.specs.Records.{fields_of}
use Rattle.rr_trace.specs.View.{plain_ports, plain_values}
use Rattle.rr_trace.specs.Written.{fields_at, names_of}
use Rattle.rr_trace.proofs.TextSteps.{both_names, first_text, next_text}
use Rattle.rr_trace.proofs.write.text_of.Goals as goal

pub loop-row-init : goal.loop-row-init
loop-row-init c =
    let names : fields_of c.in_ok-record.record ≡ names_of (plain_ports c.args.ports.now) =
    c.in_ok-record.ensures.fields ∙ both_names c.args.ports.now.inputs.items c.args.ports.now.outputs.items in (
      c.in_ok-write_record.ensures.fields,
      c.in_ok-write_record.ensures.wrote,
      c.in_ok-write_record.ensures.setup,
      c.in_ok-record.ensures.partial,
      first_text _ _ (names_of (plain_ports c.args.ports.now)) (fields_of c.in_ok-record.record) c.in_ok-write_record.ensures.text (search rules) names,
    )

pub loop-row-preserved : goal.loop-row-preserved
loop-row-preserved c = (
  c.in_ok-write_record-2.ensures.fields,
  c.in_ok-write_record-2.ensures.wrote,
  c.in_ok-write_record-2.ensures.setup,
  c.in_ok-put_row.ensures.partial,
  next_text (fields_at (plain_values c.args.inputs.now) (plain_values c.args.outputs.now)) _ _ (names_of (plain_ports c.args.ports.now)) (fields_of c.put_row.new.line) c.loop-row.row
      c.in_ok-write_record-2.ensures.text c.loop-row.invariant.4 c.in_ok-put_row.ensures.fields,
)
