use Rattle.std.proofs.Common.{◌≡◌, ◌++◌, [], map, take}
use Rattle.csv.specs.Records.{fields_of, partial_of}
use Rattle.rr_trace.proofs.write.put_names.Given as goal

abbrev pub invariant-loop-port : goal.invariant-loop-port
invariant-loop-port l = (fields_of l.line ≡ fields_of l.fn.line ++ map (λ x. x.name.now) (take l.port-index l.ports)) × (partial_of l.line ≡ [])
