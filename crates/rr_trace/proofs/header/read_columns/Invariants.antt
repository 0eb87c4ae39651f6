use Rattle.std.proofs.Common.{map}
use Rattle.csv.specs.Records.{fields_of}
use Rattle.rr_trace.specs.Columns.{trimmed}
use Rattle.rr_trace.specs.View.{plain_ports}
use Rattle.rr_trace.proofs.Filling.{Filled}
use Rattle.rr_trace.proofs.header.read_columns.Given as goal

abbrev pub invariant-loop-at : goal.invariant-loop-at
invariant-loop-at l = Filled (plain_ports l.ports) (map trimmed (fields_of l.fields)) l.at l.columns.widths.items l.columns.numbers
