use Rattle.std.proofs.Common.{ap, length, Some, sym}
use Rattle.rr_syntax.specs.View.{plain_module}
use Rattle.rr_declarations.proofs.Steps.{refused}
use Rattle.rr_flatten.proofs.Walks.{start_is}
use Rattle.rr_flatten.proofs.source.walk_from.Goals as goal

pub enter-requires-clause-loops : goal.enter-requires-clause-loops
enter-requires-clause-loops c = rw c.new-2.ensures.items (ap (λ f. length f.scopes) (sym c.new.ensures))

pub returns-in_err-enter : goal.returns-in_err-enter
unfolding plain_module
returns-in_err-enter c =
    let start = start_is c.new.result (Some 1048576) _ _ _ _ c.new.ensures (ap (λ m. m.token) c.module_at-own.ensures) c.none.ensures c.new-2.ensures.items in
    refused c.from_residual.result _ _ c.in_err-enter.field-0.0 c.from_residual.ensures.1 (rw (c.new-given.ensures, start) at c.in_err-enter.ensures.value)

pub returns : goal.returns
unfolding plain_module
returns c =
    let start = start_is c.new.result (Some 1048576) _ _ _ _ c.new.ensures (ap (λ m. m.token) c.module_at-own.ensures) c.none.ensures c.new-2.ensures.items in
    rw (c.new-given.ensures, start) at c.in_ok-enter.ensures.value
