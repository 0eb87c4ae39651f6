use Rattle.std.proofs.Common.{ap, map, ◌∙◌}
use Rattle.rr_syntax.specs.View.{plain_module}
use Rattle.rr_lint_laws.specs.Mended.{mended_body}
use Rattle.rr_lint_names.specs.Latched.{marks}
use Rattle.rr_lint_tree.proofs.Trees.{modules_none, modules_more, modules_full}
use Rattle.rr_lint_tree.proofs.mending.new_modules.Goals as goal

pub loop-i-init : goal.loop-i-init
loop-i-init c = record { done = λ numbers h. modules_none (mended_body (marks c.args.noted.now)) numbers c.new-list.result.items c.new-list.ensures.items }

pub loop-i-preserved : goal.loop-i-preserved
loop-i-preserved c = record {
  done = λ numbers h.
      modules_more (mended_body (marks c.args.noted.now)) numbers c.loop-i.list.items c.push.new.self.items c.args.old.now c.loop-i.i _ c.in_ok-new.new c.loop-i-test.true (c.loop-i.invariant.done numbers h) (c.in_ok-new.ensures numbers h)
      c.in_ok-push.ensures.items;
}

pub returns : goal.returns
returns c = λ numbers h. ap (map plain_module) c.into_bump_slice.ensures ∙ modules_full (mended_body (marks c.args.noted.now)) numbers c.loop-i.list.items c.args.old.now c.loop-i.i c.loop-i-test.false (c.loop-i.invariant.done numbers h)
