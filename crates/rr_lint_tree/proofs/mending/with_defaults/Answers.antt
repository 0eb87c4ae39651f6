use Rattle.std.proofs.Common.{None, ap, ◌∙◌}
use Rattle.rr_syntax.specs.Tree.{Block}
use Rattle.rr_syntax.specs.View.{plain_label, plain_statement, plain_statements}
use Rattle.rr_lint_tree.proofs.Trees.{cleared_start, cleared_more, defaults_are, no_defaults}
use Rattle.rr_lint_tree.proofs.mending.with_defaults.Goals as goal

pub returns-then-names-eq0 : goal.returns-then-names-eq0
returns-then-names-eq0 c = no_defaults c.args.names.now (plain_statement c.args.body) c.if-names-eq0.true

pub loop-name-init : goal.loop-name-init
loop-name-init c = record { done = cleared_start c.new-list.result.items c.new-list.ensures.items }

pub loop-name-preserved : goal.loop-name-preserved
loop-name-preserved c = record {
  done = cleared_more c.loop-name.list.items c.add_statement.new.list.items c.args.names.now c.loop-name.name-index _ c.in_ok-new.new c.loop-name-test.true c.loop-name.invariant.done c.in_ok-new.ensures c.in_ok-add_statement.ensures;
}

pub returns : goal.returns
returns c =
    defaults_are c.loop-name.list.items c.add_statement-2.new.list.items c.args.names.now c.loop-name.name-index c.args.body c.block.result c.if-names-eq0.false c.loop-name-test.false c.loop-name.invariant.done c.in_ok-add_statement-2.ensures
    (c.block.ensures ∙ ap (λ l. Block (plain_label None) (plain_statements l)) c.into_bump_slice.ensures)
