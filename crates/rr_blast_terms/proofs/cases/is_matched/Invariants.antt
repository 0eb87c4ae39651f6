use Rattle.std.proofs.Common.{◌≡◌, ℕ, Bool, ◌||◌, drop}
use Rattle.rr_circuit.specs.Values.{Extends, IsWire, wire_value, wire_values}
use Rattle.rr_syntax.specs.View.{plain_list}
use Rattle.rr_instance.specs.Instances.{instance_parts}
use Rattle.rr_cycle.specs.Exec.{is_matched}
use Rattle.rr_signal_wires.specs.Words.{carried}
use Rattle.rr_blast_terms.specs.Choosing.{picks_of}
use Rattle.rr_blast_terms.proofs.cases.is_matched.Given as goal

abbrev pub invariant-loop-label : goal.invariant-loop-label
invariant-loop-label l = record {
  extends : Extends l.fn.b l.b;
  wire : IsWire l.b l.found;
  value : (env : ℕ → Bool) →
      (wire_value l.b env l.found || is_matched l.scope l.selector.kind.0 l.selector.shape (wire_values l.fn.b env l.selector.value.now) (instance_parts l.choice.sites.now (picks_of l.fn.b env l.choice) (plain_list (drop l.label-index l.labels))) (carried l.fn.b env l.words))
      ≡ is_matched l.scope l.selector.kind.0 l.selector.shape (wire_values l.fn.b env l.selector.value.now) (instance_parts l.choice.sites.now (picks_of l.fn.b env l.choice) (plain_list l.labels)) (carried l.fn.b env l.words);
}
