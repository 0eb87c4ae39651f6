use Rattle.rr_lint_laws.specs.Mended.{mended_body}
use Rattle.rr_lint_names.specs.Latched.{marks}
use Rattle.rr_lint_tree.proofs.Trees.{items_none, items_more}
use Rattle.rr_lint_tree.proofs.mending.new_items.Goals as goal

pub loop-one-init : goal.loop-one-init
loop-one-init c = record { done = items_none (mended_body (marks c.args.noted.now)) c.new-list.result.items c.new-list.ensures.items }

pub loop-one-preserved : goal.loop-one-preserved
loop-one-preserved c = record {
  done = items_more (mended_body (marks c.args.noted.now)) c.loop-one.list.items c.push.new.self.items c.args.old.now c.loop-one.one-index c.one-item.result c.in_ok-new.new c.loop-one-test.true c.one-item.is c.loop-one.invariant.done c.in_ok-new.ensures
      c.in_ok-push.ensures.items;
}
