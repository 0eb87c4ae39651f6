use Rattle.std.proofs.Common.{◌≡◌, ℕ, Bool, take, drop}
use Rattle.rr_circuit.specs.Values.{Extends, wire_values}
use Rattle.rr_syntax.specs.View.{plain_statement}
use Rattle.rr_choice.specs.Choices.{decode, total_bits}
use Rattle.rr_instance.specs.Firsts.{first_token}
use Rattle.rr_choice.specs.View.{plain_sites}
use Rattle.rr_signal_wires.specs.Words.{widths_of}
use Rattle.rr_blast_terms.specs.Choosing.{picks_of}
use Rattle.rr_blast_stmt.specs.Running.{IsMachine, held}
use Rattle.rr_blast_body.specs.Overwrites.{sites_ran}
use Rattle.rr_blast_body.proofs.bodies.run_sites.Given as goal

abbrev pub invariant-loop-site : goal.invariant-loop-site
invariant-loop-site l = record {
  extends : Extends l.fn.b l.b;
  machine : IsMachine l.b (widths_of l.fn.machine.now.items) l.machine;
  at : l.at ≡ total_bits (take l.site-index (plain_sites l.list));
  ran : (env : ℕ → Bool) →
      sites_ran l.scope (first_token (plain_statement l.stmt)) (plain_sites (drop l.site-index l.list)) (decode (plain_sites (drop l.site-index l.list)) (drop l.at (wire_values l.fn.b env l.choice.wires.now))) (held l.b env l.machine)
      ≡ sites_ran l.scope (first_token (plain_statement l.stmt)) l.choice.sites.now (picks_of l.fn.b env l.choice) (held l.fn.b env l.fn.machine);
}
