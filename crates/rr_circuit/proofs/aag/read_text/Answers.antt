use Rattle.std.proofs.Common.{refl, arith}
use Rattle.std.proofs.lemmas.Bool.{false≢true}
use Rattle.rr_circuit.proofs.AagLaws.{bad_header}
use Rattle.rr_circuit.proofs.AagWhole.{after_inputs, after_outputs, after_gates, inputs_cause, outputs_cause, gates_cause, end_cause, is_text_of, are_wires, is_circuit}
use Rattle.rr_circuit.proofs.aag.read_text.Goals as goal

pub returns-in_default-clause-cause : goal.returns-in_default-clause-cause
returns-in_default-clause-cause c = bad_header _ c.in_default.ensures.none

pub returns-in-Err-clause-cause : goal.returns-in-Err-clause-cause
returns-in-Err-clause-cause c = inputs_cause _ _ _ _ c.in-Some.ensures.bounds c.in-Some.ensures.some c.in-Err.ensures.err

pub returns-in-Err-read_outputs-clause-cause : goal.returns-in-Err-read_outputs-clause-cause
returns-in-Err-read_outputs-clause-cause c =
    outputs_cause _ _ _ _ c.in-Some.ensures.bounds (after_inputs _ _ _ _ c.in-Some.ensures.some c.in-Ok.ensures.ok) c.in-Err-read_outputs.ensures.err

pub returns-in-Err-read_gates-clause-cause : goal.returns-in-Err-read_gates-clause-cause
returns-in-Err-read_gates-clause-cause c =
    let out = c.in-Ok-read_outputs.ensures in
    gates_cause _ _ _ _ _ c.in-Some.ensures.bounds out.count out.known (after_outputs _ _ _ _ _ (after_inputs _ _ _ _ c.in-Some.ensures.some c.in-Ok.ensures.ok) out.ok) c.in-Err-read_gates.ensures.err

pub returns-then-not-is_unread-clause-cause : goal.returns-then-not-is_unread-clause-cause
returns-then-not-is_unread-clause-cause c =
    let out = c.in-Ok-read_outputs.ensures in
    let gates = c.in-Ok-read_gates.ensures in
    end_cause _ _ _ _ _ c.in-Some.ensures.bounds out.count gates.count out.known gates.known
    (after_gates _ _ _ _ _ _ (after_outputs _ _ _ _ _ (after_inputs _ _ _ _ c.in-Some.ensures.some c.in-Ok.ensures.ok) out.ok) gates.ok)
    (λ u. false≢true (c.if-not-is_unread.ensures.1 u))

pub invariant_of-result : goal.invariant_of-result
invariant_of-result c =
    let out = c.in-Ok-read_outputs.ensures in
    let gates = c.in-Ok-read_gates.ensures in
    let bound = c.in-Some.ensures.bounds.0 in
    (gates.known, omega (arith, gates.count), are_wires c.in-Some.counts _ _ gates.count out.known)

pub returns-clause-circuit : goal.returns-clause-circuit
returns-clause-circuit c =
    let out = c.in-Ok-read_outputs.ensures in
    let gates = c.in-Ok-read_gates.ensures in
    is_text_of _ _ _ _ _ out.count gates.count
    (after_gates _ _ _ _ _ _ (after_outputs _ _ _ _ _ (after_inputs _ _ _ _ c.in-Some.ensures.some c.in-Ok.ensures.ok) out.ok) gates.ok)
    (c.if-not-is_unread.ensures.0 refl)

pub returns-clause-lawful : goal.returns-clause-lawful
returns-clause-lawful c =
    let out = c.in-Ok-read_outputs.ensures in
    let gates = c.in-Ok-read_gates.ensures in
    is_circuit _ _ _ c.in-Some.ensures.bounds out.count gates.count out.known gates.known
