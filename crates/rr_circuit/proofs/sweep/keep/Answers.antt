use Rattle.std.proofs.Common.{◌≡◌, ◌∷◌, [], ◌∙◌, sym, ap, length, arith, length-append}
use Rattle.rr_circuit.specs.Values.{OutputNetlist, IsNetlist}
use Rattle.rr_circuit.proofs.Keeping.{AreKept-more, AreKept-left_out}
use Rattle.rr_circuit.proofs.sweep.keep.Goals as goal

pub returns-then-not-stays : goal.returns-then-not-stays
returns-then-not-stays c =
    let n = c.args.circuit.now.netlist in
    let lawful : IsNetlist n.inputs n.gates = rw (← c.circuit.view_is) c.circuit.invariant.0 in
    rw c.in_ok-push.ensures.items (AreKept-left_out _ _ _ _ _ lawful c.requires.number (sym c.stays.ensures ∙ c.if-not-stays.true) c.requires.kept)

pub returns : goal.returns
returns c =
    let n = c.args.circuit.now.netlist in
    let lawful : IsNetlist n.inputs n.gates = rw (← c.circuit.view_is) c.circuit.invariant.0 in
    let inputs : c.circuit.inside.inputs ≡ n.inputs = ap (λ (m : OutputNetlist). m.netlist.inputs) c.circuit.view_is in
    let mark = sym c.stays.ensures ∙ c.if-not-stays.false in
    let both = c.requires.marks.operands c.args.number (omega arith) c.requires.number mark in
    let p = length-append c.args.kept.now.gates.items (record { left = c.moved-left.result; right = c.moved-right.result } ∷ []) in
    rw (c.in_ok-push-2.ensures.items, c.in_ok-push-3.ensures.items) (AreKept-more n _ _ _ _ _ _ _ _ _ _ lawful c.requires.number both.0 both.1 mark c.as_slice.ensures.value c.as_slice-2.ensures.value c.gate-gate.ensures.gate c.moved-left.ensures c.moved-right.ensures (omega (arith, p, inputs, c.len.ensures, ap length c.in_ok-push-2.ensures.items)) c.requires.kept)
