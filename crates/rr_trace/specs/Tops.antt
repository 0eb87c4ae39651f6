-- The ports of a flat design's top that a table speaks of, in port order (IEEE 1364-2005 section 12.3.3): its inputs
-- but the clock, and its outputs.
use Rattle.std.specs.Prelude.{ℕ, map, Option, option_map}
use Rattle.rr_flat.specs.Signals.{signal_at}
use Rattle.rr_flat.specs.Plain.{Flat}
use Rattle.rr_flat.specs.Inputs.{row_inputs}
use Rattle.rr_trace.specs.Columns.{Port, Ports}
use Rattle.rr_trace.specs.Names.{Text}

abbrev pub name_of : Flat → ℕ → Text
name_of flat id = (signal_at flat.signals id).name

abbrev pub port_of : Flat → ℕ → Port
port_of flat id = record { id = id; name = name_of flat id; width = (signal_at flat.signals id).width }

abbrev pub ports_of : Flat → Option ℕ → Ports
ports_of flat clock = record {
  clock = option_map (name_of flat) clock;
  inputs = map (port_of flat) (row_inputs clock flat.inputs);
  outputs = map (port_of flat) flat.outputs;
}
