use Rattle.rr_declarations.proofs.Steps.{refused}
use Rattle.rr_flatten.proofs.items.without_loops.Goals as goal

pub returns-in_err-made-clause-value : goal.returns-in_err-made-clause-value
returns-in_err-made-clause-value c =
    refused c.from_residual.result _ _ c.in_err-made.field-0.0 c.from_residual.ensures.1 (rw (c.names_of-names.ensures.value, c.loops_of-loops.ensures) at c.in_err-made.ensures.counted)

pub returns-clause-value : goal.returns-clause-value
returns-clause-value c = rw (c.names_of-names.ensures.value, c.loops_of-loops.ensures) at c.in_ok-made.ensures.counted

pub returns-clause-made : goal.returns-clause-made
returns-clause-made c = rw c.names_of-names.ensures.value at c.in_ok-made.ensures.made
