use Rattle.std.proofs.lemmas.Bool.{false≢true}
use Rattle.rr_circuit.proofs.HeaderLaws.{no_second, no_third, no_fourth, no_fifth, header_wrong}
use Rattle.rr_circuit.proofs.aag.header_numbers.Goals as goal

pub returns-in_err-inputs-clause-none : goal.returns-in_err-inputs-clause-none
returns-in_err-inputs-clause-none c = rw c.from_residual-in_err-inputs.ensures (no_second _ _ _ c.in_ok-variables.ensures.fits c.in_ok-variables.ensures.some c.in_err-inputs.ensures.none)

pub returns-in_err-latches-clause-none : goal.returns-in_err-latches-clause-none
returns-in_err-latches-clause-none c = rw c.from_residual-in_err-latches.ensures (no_third _ _ _ _ _ c.in_ok-variables.ensures.fits c.in_ok-inputs.ensures.fits c.in_ok-variables.ensures.some c.in_ok-inputs.ensures.some c.in_err-latches.ensures.none)

pub returns-in_err-outputs-clause-none : goal.returns-in_err-outputs-clause-none
returns-in_err-outputs-clause-none c = rw c.from_residual-in_err-outputs.ensures (no_fourth _ _ _ _ _ _ _ c.in_ok-variables.ensures.fits c.in_ok-inputs.ensures.fits c.in_ok-latches.ensures.fits c.in_ok-variables.ensures.some c.in_ok-inputs.ensures.some c.in_ok-latches.ensures.some c.in_err-outputs.ensures.none)

pub returns-in_err-gates-clause-none : goal.returns-in_err-gates-clause-none
returns-in_err-gates-clause-none c = rw c.from_residual-in_err-gates.ensures (no_fifth _ _ _ _ _ _ _ _ _ c.in_ok-variables.ensures.fits c.in_ok-inputs.ensures.fits c.in_ok-latches.ensures.fits c.in_ok-outputs.ensures.fits c.in_ok-variables.ensures.some c.in_ok-inputs.ensures.some c.in_ok-latches.ensures.some c.in_ok-outputs.ensures.some c.in_err-gates.ensures.none)

pub returns-then-not-is_header-clause-none : goal.returns-then-not-is_header-clause-none
returns-then-not-is_header-clause-none c = header_wrong _ _ _ _ _ _ _ _ _ _ _ c.in_ok-variables.ensures.fits c.in_ok-inputs.ensures.fits c.in_ok-latches.ensures.fits c.in_ok-outputs.ensures.fits c.in_ok-gates.ensures.fits c.in_ok-variables.ensures.some c.in_ok-inputs.ensures.some c.in_ok-latches.ensures.some c.in_ok-outputs.ensures.some c.in_ok-gates.ensures.some
    (λ l m o e. false≢true (c.if-not-is_header.ensures.1 (l, m, o, e)))
