use Rattle.std.proofs.Common.{◌∙◌, sym, ap, drop, ◌+◌}
use Rattle.rr_syntax.specs.View.{plain_list}
use Rattle.rr_flatten.specs.Walk.{fold_trees, check_port}
use Rattle.rr_flatten.proofs.Positions.{trees_more, trees_done}
use Rattle.rr_flatten.proofs.settings.check_ports.Goals as goal

pub loop-place-preserved : goal.loop-place-preserved
loop-place-preserved c =
    ap (λ s. fold_trees (check_port c.args.loops.now c.args.names.now) s (plain_list (drop (c.loop-place.place + 1) c.args.list.now))) c.check_port-next.ensures
    ∙ (trees_more (check_port c.args.loops.now c.args.names.now) _ c.args.list.now c.loop-place.place c.index-list-place.result c.loop-place-test.true c.index-list-place.is ∙ c.loop-place.invariant)

pub returns : goal.returns
returns c = ap (λ p. p.found) (sym (trees_done (check_port c.args.loops.now c.args.names.now) _ c.args.list.now c.loop-place.place c.loop-place-test.false) ∙ c.loop-place.invariant)
