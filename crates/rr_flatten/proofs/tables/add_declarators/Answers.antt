use Rattle.std.proofs.Common.{◌∙◌, ap, map, drop, fold, ◌+◌}
use Rattle.rr_syntax.specs.View.{plain_declarator, texts}
use Rattle.rr_flatten.specs.Tables.{add_declarator_name}
use Rattle.rr_declarations.proofs.Steps.{fold_more}
use Rattle.rr_flatten.proofs.tables.add_declarators.Goals as goal

pub loop-declarator-preserved : goal.loop-declarator-preserved
unfolding plain_declarator
loop-declarator-preserved c = ap (λ s. fold add_declarator_name s (map plain_declarator (drop (c.loop-declarator.declarator-index + 1) c.args.list.now))) c.in_ok-push_name.ensures ∙ (fold_more plain_declarator add_declarator_name c.args.list.now c.loop-declarator.declarator-index _ (texts c.loop-declarator.names.items) c.loop-declarator-test.true ∙ c.loop-declarator.invariant)
