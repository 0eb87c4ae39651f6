use Rattle.std.proofs.Common.{false, sym, ap, ◌∙◌}
use Rattle.rr_bits.specs.Words.{tabulate}
use Rattle.rr_expr.specs.declared.types.Shape.{Shape}
use Rattle.rr_expr.specs.Scopes.{entity_shape, entity_value, env_of_lists}
use Rattle.rr_word_gates.proofs.Carrying.{Carries-same}
use Rattle.rr_blast_sites.specs.Signals.{signal_values}
use Rattle.rr_blast_sites.proofs.names.name_word.Goals as goal

pub returns-in_ok-out-in-Memory-clause-value : goal.returns-in_ok-out-in-Memory-clause-value
returns-in_ok-out-in-Memory-clause-value c = Carries-same _ _ _ _ c.in_ok-out-in-Memory.ensures.value
    (λ input.
    ap (λ (a : Shape). tabulate a.width (λ i. false)) (c.entity_shape-width-in-Memory.ensures.value ∙ ap entity_shape c.in-Memory.is)
    ∙ sym (ap (entity_value (env_of_lists (signal_values c.args.b.now input c.args.signals.now))) c.in-Memory.is))
