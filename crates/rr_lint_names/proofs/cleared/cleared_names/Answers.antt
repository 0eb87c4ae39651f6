use Rattle.std.proofs.Common.{ap, map, ◌∙◌, ◌++◌}
use Rattle.rr_syntax.specs.View.{plain_statement, texts}
use Rattle.rr_text_names.specs.View.{plain_target}
use Rattle.rr_lint_laws.specs.Ever.{ever_assigned}
use Rattle.rr_lint_names.specs.Latched.{marks}
use Rattle.rr_lint_names.proofs.Once.{seen_none, seen_next, seen_all}
use Rattle.rr_lint_names.proofs.cleared.cleared_names.Goals as goal

pub loop-target-init : goal.loop-target-init
loop-target-init c = seen_none (marks c.args.noted.now c.args.token) c.deref-target-items.result.now c.new-seen.result (texts c.new-names.result.items) c.new-seen.ensures (ap texts c.new-names.ensures.items)

pub loop-target-preserved : goal.loop-target-preserved
loop-target-preserved c =
    seen_next (marks c.args.noted.now c.args.token) c.deref-target-items.result.now c.loop-target.target-index _ c.identifier_of-named.result c.loop-target.seen (texts c.loop-target.names.items) c.add_name.new.seen (texts c.add_name.new.names.items)
    c.loop-target-test.true c.loop-target.invariant c.identifier_of-named.ensures c.in_ok-add_name.ensures.seen c.in_ok-add_name.ensures.names

pub returns : goal.returns
returns c =
    seen_all (marks c.args.noted.now c.args.token) c.deref-target-items.result.now c.loop-target.target-index c.loop-target.seen (texts c.loop-target.names.items) (ever_assigned (plain_statement c.args.body.now)) c.loop-target-test.false
    (ap (map plain_target) c.deref-target-items.ensures.value ∙ c.in_ok-add_ever_assigned.ensures ∙ ap (λ l. map plain_target l ++ ever_assigned (plain_statement c.args.body.now)) c.new-targets.ensures.items) c.loop-target.invariant
