use Rattle.std.proofs.Common.{◌∙◌, sym, ap, map}
use Rattle.rr_syntax.specs.View.{plain_identifier}
use Rattle.rr_guard.specs.Names.{texts_of}
use Rattle.rr_guard.proofs.ScalarNodes.{first_there, first_new, seen_after, is_new, was_there}
use Rattle.rr_guard.proofs.declared.add_first.Goals as goal

pub returns-then-not-branch-clause-added : goal.returns-then-not-branch-clause-added
returns-then-not-branch-clause-added c =
    first_there (map plain_identifier c.args.list.now.items) c.args.name.now (was_there _ c.args.seen.now c.args.name.now.name.now (map plain_identifier c.args.list.now.items) c.in_ok-add.ensures.was_new c.if-not-branch.true c.requires)

pub returns-then-not-branch-clause-same : goal.returns-then-not-branch-clause-same
returns-then-not-branch-clause-same c =
    let there = was_there _ c.args.seen.now c.args.name.now.name.now (map plain_identifier c.args.list.now.items) c.in_ok-add.ensures.was_new c.if-not-branch.true c.requires in
    c.in_ok-add.ensures.added
    ∙ (seen_after (map plain_identifier c.args.list.now.items) c.args.name.now c.args.seen.now c.requires
    ∙ ap texts_of (sym (first_there (map plain_identifier c.args.list.now.items) c.args.name.now there)))

pub returns-clause-added : goal.returns-clause-added
returns-clause-added c =
    let new = is_new _ c.args.seen.now c.args.name.now.name.now (map plain_identifier c.args.list.now.items) c.in_ok-add.ensures.was_new c.if-not-branch.false c.requires in
    c.in_ok-push_named.ensures ∙ first_new (map plain_identifier c.args.list.now.items) c.args.name.now new

pub returns-clause-same : goal.returns-clause-same
returns-clause-same c =
    let new = is_new _ c.args.seen.now c.args.name.now.name.now (map plain_identifier c.args.list.now.items) c.in_ok-add.ensures.was_new c.if-not-branch.false c.requires in
    c.in_ok-add.ensures.added
    ∙ (seen_after (map plain_identifier c.args.list.now.items) c.args.name.now c.args.seen.now c.requires
    ∙ ap texts_of (sym (c.in_ok-push_named.ensures ∙ first_new (map plain_identifier c.args.list.now.items) c.args.name.now new)))
