use Rattle.std.proofs.Common.{◌∙◌, ap, map, drop, fold, ◌+◌}
use Rattle.rr_syntax.specs.View.{plain_declarator}
use Rattle.rr_declarations.specs.Declarations.{know_declarator}
use Rattle.rr_declarations.proofs.Steps.{fold_more}
use Rattle.rr_declarations.proofs.known.know_declarators.Goals as goal

pub loop-declarator-preserved : goal.loop-declarator-preserved
unfolding plain_declarator
loop-declarator-preserved c = ap (λ s. fold know_declarator s (map plain_declarator (drop (c.loop-declarator.declarator-index + 1) c.args.list.now))) c.in_ok-know.ensures ∙ (fold_more plain_declarator know_declarator c.args.list.now c.loop-declarator.declarator-index _ c.loop-declarator.names c.loop-declarator-test.true ∙ c.loop-declarator.invariant)
