use Rattle.std.proofs.Common.{◌∙◌, arith}
use Rattle.rr_sites_listed.proofs.Places.{scope_here, scope_on}
use Rattle.rr_template_tests.proofs.designs.first_scope.Goals as goal

pub returns-then-owners-i : goal.returns-then-owners-i
returns-then-owners-i c =
    c.index-scopes-i.is
    ∙ (scope_here c.args.scopes.now c.args.owners.now c.loop-i.i c.args.«module» c.index-scopes-i.result 0 (omega (arith, c.min-end.ensures, c.loop-i-test.true)) (omega (arith, c.min-end.ensures, c.loop-i-test.true)) c.if-owners-i.true
    ∙ c.loop-i.invariant)

pub loop-i-preserved : goal.loop-i-preserved
loop-i-preserved c =
    scope_on c.args.scopes.now c.args.owners.now c.loop-i.i c.args.«module» 0 (omega (arith, c.min-end.ensures, c.loop-i-test.true)) (omega (arith, c.min-end.ensures, c.loop-i-test.true)) c.if-owners-i.false
    ∙ c.loop-i.invariant
