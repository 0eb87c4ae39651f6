use Rattle.std.proofs.Common.{◌∙◌, sym, subst}
use Rattle.rr_circuit.specs.Values.{IsGateAt}
use Rattle.rr_circuit.proofs.Marking.{AreMarked-kept, AreMarked-left_out}
use Rattle.rr_circuit.proofs.sweep.mark_operands.Goals as goal

pub returns-then-stays : goal.returns-then-stays
returns-then-stays c =
    rw (c.mark-then-stays.ensures, c.mark.ensures, c.gate-gate.ensures.gate) (AreMarked-kept _ _ _ (subst (IsGateAt c.args.circuit.now.netlist.inputs c.args.number) c.gate-gate.ensures.gate c.gate-gate.ensures.known) c.requires.number (sym c.stays.ensures ∙ c.if-stays.true) c.requires.marks)

pub returns-else-stays : goal.returns-else-stays
returns-else-stays c = AreMarked-left_out _ _ _ (sym c.stays.ensures ∙ c.if-stays.false) c.requires.marks
