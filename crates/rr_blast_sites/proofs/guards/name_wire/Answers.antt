use Rattle.std.proofs.Common.{◌==◌, min, not, length, ap, refl, ◌∙◌}
use Rattle.rr_blast_sites.proofs.GuardLaws.{constant_truth, instance_truth, memory_truth, signal_truth}
use Rattle.rr_blast_sites.proofs.guards.name_wire.Goals as goal

pub returns-in-Constant-clause-value : goal.returns-in-Constant-clause-value
returns-in-Constant-clause-value c = λ W h.
    constant_truth c.args.inputs.now _ W c.args.name.now c.in-Constant.bits c.in-Constant.signed _ _ c.meaning.ensures c.in-Constant.is c.constant.ensures.wire (λ input. c.constant.ensures.value input ∙ ap (λ k. not (k == 0)) c.to_u128.ensures)

pub returns-in_ok-out-in-Signal-clause-value : goal.returns-in_ok-out-in-Signal-clause-value
returns-in_ok-out-in-Signal-clause-value c = λ W h.
    signal_truth c.args.inputs.now _ _ W c.args.name.now c.in-Signal.id c.in-Signal.range c.in-Signal.signed c.signal_wires-wires.result.now _ _ _ c.min-count.result c.meaning.ensures c.in-Signal.is h
    (λ input. c.signal_wires-wires.ensures.value _ input) (c.min-count.ensures ∙ ap (λ k. min k (length c.signal_wires-wires.result.now)) c.range_width.ensures) refl c.in_ok-out-in-Signal.ensures.value

pub returns-in-Memory-clause-value : goal.returns-in-Memory-clause-value
returns-in-Memory-clause-value c = λ W h.
    memory_truth c.args.inputs.now _ W c.args.name.now c.in-Memory.first c.in-Memory.low c.in-Memory.words c.in-Memory.range c.in-Memory.signed _ _ c.meaning.ensures c.in-Memory.is c.constant-in-Memory.ensures.wire c.constant-in-Memory.ensures.value

pub returns-in-Instance-clause-value : goal.returns-in-Instance-clause-value
returns-in-Instance-clause-value c = λ W h. instance_truth c.args.inputs.now _ W c.args.name.now _ _ c.meaning.ensures c.in-Instance.is c.constant-in-Instance.ensures.wire c.constant-in-Instance.ensures.value
