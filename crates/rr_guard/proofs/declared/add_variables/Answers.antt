use Rattle.std.proofs.Common.{◌∙◌, ap, ◌++◌, map}
use Rattle.rr_syntax.specs.View.{plain_identifier}
use Rattle.rr_syntax.specs.View.{plain_declarator}
use Rattle.rr_guard.specs.Names.{wordless_name}
use Rattle.rr_change_places.proofs.Walks.{one_more_at, all_done, flat_map_map}
use Rattle.rr_guard.proofs.declared.add_variables.Goals as goal

pub loop-name-preserved : goal.loop-name-preserved
loop-name-preserved c =
    one_more_at (λ x. wordless_name (plain_declarator x)) (map plain_identifier c.loop-name.list.items) _ _ c.args.names.now c.loop-name.name-index _ c.loop-name-test.true c.in_ok-push_wordless.ensures c.loop-name.invariant

pub returns : goal.returns
returns c =
    all_done (λ x. wordless_name (plain_declarator x)) (map plain_identifier c.loop-name.list.items) _ c.args.names.now c.loop-name.name-index c.loop-name-test.false c.loop-name.invariant
    ∙ ap (λ z. map plain_identifier c.args.list.now.items ++ z) (flat_map_map wordless_name plain_declarator c.args.names.now)
