use Rattle.std.proofs.Common.{List, ap, ◌∙◌}
use Rattle.std.specs.List.{list_all}
use Rattle.rr_directive.specs.declared.origin.Origin.{Origin}
use Rattle.rr_edit.specs.Lifted.{lifts}
use Rattle.rr_edit.specs.View.{plain_edits}
use Rattle.rr_map.proofs.Walks.{not_all, moved_in_file, is_lifted}
use Rattle.rr_map.proofs.lifting.lift.Goals as goal

pub returns-then-not-all_lift-clause-none : goal.returns-then-not-all_lift-clause-none
returns-then-not-all_lift-clause-none c =
    not_all (lifts c.args.expanded.now.origins.items) (plain_edits c.args.edits.now)
    (c.if-not-all_lift.ensures ∙ ap (λ (os : List Origin). list_all (lifts os) (plain_edits c.args.edits.now)) c.deref.ensures.value)

pub make_all-requires-clause-moved : goal.make_all-requires-clause-moved
make_all-requires-clause-moved c =
    moved_in_file c.args.file.now c.args.expanded.now.text.items c.args.expanded.now.origins.items c.deref.result.now (plain_edits c.args.edits.now) c.deref.ensures.value c.args.expanded.now.same c.requires.order
    (c.exact_laws.ensures.rise c.args.file.now c.args.expanded.now.text.items c.args.expanded.now.origins.items c.requires.expansion)
    (c.exact_laws.ensures.are c.args.file.now c.args.expanded.now.text.items c.args.expanded.now.origins.items c.requires.expansion) c.if-not-all_lift.ensures
    c.deref-2.result.now c.deref-2.ensures.value

pub returns-clause-lifted : goal.returns-clause-lifted
returns-clause-lifted c =
    is_lifted c.args.file.now c.args.expanded.now.text.items c.args.expanded.now.origins.items c.deref.result.now (plain_edits c.args.edits.now) c.deref.ensures.value c.args.expanded.now.same c.requires.order
    (c.exact_laws.ensures.rise c.args.file.now c.args.expanded.now.text.items c.args.expanded.now.origins.items c.requires.expansion)
    (c.exact_laws.ensures.are c.args.file.now c.args.expanded.now.text.items c.args.expanded.now.origins.items c.requires.expansion) c.if-not-all_lift.ensures
    c.deref-2.result.now c.in_ok-out.out.items c.deref-2.ensures.value c.in_ok-out.ensures
