use Rattle.std.proofs.Common.{◌∙◌, ap, map, drop, fold, ◌+◌}
use Rattle.rr_syntax.specs.View.{plain_assignment, texts}
use Rattle.rr_flatten.specs.Tables.{add_open_name}
use Rattle.rr_declarations.proofs.Steps.{fold_more}
use Rattle.rr_flatten.proofs.tables.add_sets.Goals as goal

pub loop-set-preserved : goal.loop-set-preserved
unfolding plain_assignment
loop-set-preserved c = ap (λ s. fold add_open_name s (map plain_assignment (drop (c.loop-set.set-index + 1) c.args.sets.now))) c.in_ok-push_name.ensures ∙ (fold_more plain_assignment add_open_name c.args.sets.now c.loop-set.set-index _ (texts c.loop-set.names.items) c.loop-set-test.true ∙ c.loop-set.invariant)
