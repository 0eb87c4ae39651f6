use Rattle.rr_blast_sites.specs.Signals.{AreSignals}
use Rattle.rr_expr_gate_tests.proofs.circuits.signals.Given as goal

abbrev pub invariant-loop-i : goal.invariant-loop-i
invariant-loop-i l = AreSignals l.b l.all.items
