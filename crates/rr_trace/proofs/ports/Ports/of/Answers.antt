use Rattle.std.proofs.Common.{[], ◌++◌, map}
use Rattle.rr_trace.specs.View.{SameNumbers}
use Rattle.rr_trace.proofs.Wide.{both_widths, wide}
use Rattle.rr_trace.proofs.ports.Ports.of.Goals as goal

pub returns-clause-sound : goal.returns-clause-sound
returns-clause-sound c = record {
  inputs = c.in_ok-inputs.ensures.widths;
  outputs = c.in_ok-outputs.ensures.widths;
  widths =
      let first : SameNumbers c.add_widths.new.widths ([] ++ map wide c.in_ok-inputs.inputs.items) = rw (c.as_slice-3.ensures.value, c.new-widths.ensures) at c.in_ok-add_widths.ensures in
      both_widths c.add_widths.new.widths c.add_widths-2.new.widths c.in_ok-inputs.inputs.items c.in_ok-outputs.outputs.items first (rw c.as_slice-4.ensures.value at c.in_ok-add_widths-2.ensures);
}
