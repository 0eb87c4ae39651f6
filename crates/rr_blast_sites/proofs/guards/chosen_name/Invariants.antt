use Rattle.rr_blast_sites.proofs.GuardLaws.{Named}
use Rattle.rr_blast_sites.proofs.guards.chosen_name.Given as goal

abbrev pub invariant-loop-i : goal.invariant-loop-i
invariant-loop-i l = Named l.inputs l.fn.b l.b l.names l.bits l.name l.last l.i
