use Rattle.std.proofs.Common.{◌++◌, map, take}
use Rattle.rr_trace.specs.View.{SameNumbers}
use Rattle.rr_trace.proofs.ports.add_widths.Given as goal

abbrev pub invariant-loop-port : goal.invariant-loop-port
invariant-loop-port l = SameNumbers l.widths (l.fn.widths ++ map (λ x. (x.name.now, x.width)) (take l.port-index l.ports))
