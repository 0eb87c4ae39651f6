use Rattle.std.proofs.lemmas.Bool.{false≢true}
use Rattle.rr_circuit.proofs.AagLaws.{gate_no_left, gate_no_right, gate_other}
use Rattle.rr_circuit.proofs.aag.gate_then.Goals as goal

pub returns-in_err-left-clause-none : goal.returns-in_err-left-clause-none
returns-in_err-left-clause-none c = rw c.from_residual-in_err-left.ensures (gate_no_left _ _ _ _ _ c.requires c.in_ok-literal.ensures.fits c.in_ok-literal.ensures.some c.in_err-left.ensures.none)

pub returns-in_err-right-clause-none : goal.returns-in_err-right-clause-none
returns-in_err-right-clause-none c = rw c.from_residual-in_err-right.ensures (gate_no_right _ _ _ _ _ _ _ c.requires c.in_ok-literal.ensures.fits c.in_ok-left.ensures.fits c.in_ok-literal.ensures.some c.in_ok-left.ensures.some c.in_err-right.ensures.none)

pub returns-then-not-is_gate-clause-none : goal.returns-then-not-is_gate-clause-none
returns-then-not-is_gate-clause-none c = gate_other _ _ _ _ _ _ _ _ _ c.requires c.in_ok-literal.ensures.fits c.in_ok-left.ensures.fits c.in_ok-right.ensures.fits c.in_ok-literal.ensures.some c.in_ok-left.ensures.some c.in_ok-right.ensures.some
    (λ e l r. false≢true (c.if-not-is_gate.ensures.1 (e, l.0, l.1, r.0, r.1)))
