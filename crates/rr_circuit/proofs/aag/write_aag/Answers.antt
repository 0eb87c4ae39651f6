use Rattle.std.proofs.Common.{◌≡◌, ◌<◌, ◌^◌, length, arith}
use Rattle.rr_circuit.proofs.AagWhole.{written}
use Rattle.rr_circuit.proofs.aag.write_aag.Goals as goal

pub push_header-requires : goal.push_header-requires
push_header-requires c =
    let b = c.circuit.invariant.1 in
    (omega (arith, c.len-2.ensures, c.circuit.inside.gates.ok), omega arith)

pub returns-clause-circuit : goal.returns-clause-circuit
returns-clause-circuit c =
    let inside = c.circuit.inside in
    let gates : c.len-2.result ≡ length inside.gates.items = omega (arith, c.len-2.ensures, inside.gates.ok) in
    let few : c.len.result < 2 ^ 62 = omega arith in
    let outputs : length inside.outputs.items < 2 ^ 62 = omega (arith, few, c.len.ensures, inside.outputs.ok) in
    rw (← c.circuit.view_is) (record { gates = c.circuit.invariant.0; outputs = c.circuit.invariant.2; bounds = (c.circuit.invariant.1, outputs) })

pub returns-clause-text : goal.returns-clause-text
returns-clause-text c =
    let inside = c.circuit.inside in
    let outputs : c.len.result ≡ length inside.outputs.items = omega (arith, c.len.ensures, inside.outputs.ok) in
    let gates : c.len-2.result ≡ length inside.gates.items = omega (arith, c.len-2.ensures, inside.gates.ok) in
    rw (c.in_ok-push_gates.ensures, c.in_ok-push_outputs.ensures, c.in_ok-push_inputs.ensures, c.in_ok-push_header.ensures, c.new-out.ensures.items, c.deref.ensures.value, c.deref-2.ensures.value, ← c.circuit.view_is, outputs, gates)
    (written (record { inputs = inside.inputs; outputs = length inside.outputs.items; gates = length inside.gates.items }) inside.outputs.items inside.gates.items)
