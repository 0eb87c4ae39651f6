-- The ports of a flat design's top for which a dump is sampled, in port order (IEEE 1364-2005 section 12.3.3).
use Rattle.std.specs.Prelude.{ℕ, List, map, Bool, Option, option_map}
use Rattle.rr_flat.specs.Plain.{Flat}
use Rattle.rr_flat.specs.Signals.{signal_at}
use Rattle.rr_flat.specs.Inputs.{row_inputs}

-- a port by its name and its number of bits
pub record Port : Type 0 where
  pub name : List ℕ
  pub width : ℕ

-- a clock with the direction of its edges
pub record Clock : Type 0 where
  pub port : Port
  pub rising : Bool

-- every input, the clock among them; the clock, where there is one; the inputs but the clock; and the outputs
pub record Top : Type 0 where
  pub every : List Port
  pub clock : Option Clock
  pub inputs : List Port
  pub outputs : List Port

abbrev pub port_of : Flat → ℕ → Port
port_of flat id = record { name = (signal_at flat.signals id).name; width = (signal_at flat.signals id).width }

abbrev pub clock_of : Flat → Bool → ℕ → Clock
clock_of flat rising id = record { port = port_of flat id; rising = rising }

abbrev pub top_of : Flat → Option ℕ → Bool → Top
top_of flat clock rising = record {
  every = map (port_of flat) flat.inputs;
  clock = option_map (clock_of flat rising) clock;
  inputs = map (port_of flat) (row_inputs clock flat.inputs);
  outputs = map (port_of flat) flat.outputs;
}
