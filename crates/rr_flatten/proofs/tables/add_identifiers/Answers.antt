use Rattle.std.proofs.Common.{◌∙◌, ap, map, drop, fold, ◌+◌}
use Rattle.rr_syntax.specs.View.{plain_identifier, texts}
use Rattle.rr_flatten.specs.Tables.{add_port_name}
use Rattle.rr_declarations.proofs.Steps.{fold_more}
use Rattle.rr_flatten.proofs.tables.add_identifiers.Goals as goal

pub loop-named-preserved : goal.loop-named-preserved
unfolding plain_identifier
loop-named-preserved c = ap (λ s. fold add_port_name s (map plain_identifier (drop (c.loop-named.named-index + 1) c.args.list.now))) c.in_ok-push_name.ensures ∙ (fold_more plain_identifier add_port_name c.args.list.now c.loop-named.named-index _ (texts c.loop-named.names.items) c.loop-named-test.true ∙ c.loop-named.invariant)
