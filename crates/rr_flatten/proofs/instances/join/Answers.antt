use Rattle.std.proofs.Common.{sym}
use Rattle.rr_flatten.proofs.Grown.{signal_found}
use Rattle.rr_flatten.proofs.instances.join.Goals as goal

pub port_of-port-requires : goal.port_of-port-requires
port_of-port-requires c = signal_found _ _ _ _ c.names_of.ensures.scope (sym c.in-Some.ensures)

pub join_port-requires-clause-signal : goal.join_port-requires-clause-signal
join_port-requires-clause-signal c = signal_found _ _ _ _ c.names_of.ensures.scope (sym c.in-Some.ensures)
