use Rattle.std.proofs.Common.{◌≡◌, map, take}
use Rattle.rr_trace.specs.Rows.{value_in}
use Rattle.rr_trace.proofs.rows.input_values.Given as goal

abbrev pub invariant-loop-place : goal.invariant-loop-place
invariant-loop-place l = l.values.items ≡ map (value_in l.cells) (take l.place-index l.places)
