use Rattle.std.proofs.Common.{◌≡◌, ◌++◌, [], map, take, decimal}
use Rattle.csv.specs.Records.{fields_of, partial_of}
use Rattle.rr_trace.proofs.write.put_values.Given as goal

abbrev pub invariant-loop-value : goal.invariant-loop-value
invariant-loop-value l = (fields_of l.line ≡ fields_of l.fn.line ++ map decimal (take l.value-index l.values)) × (partial_of l.line ≡ [])
