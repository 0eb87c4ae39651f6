use Rattle.std.proofs.Common.{◌∙◌, sym}
use Rattle.rr_lint_laws.specs.Mended.{mended_body}
use Rattle.rr_lint_names.specs.Latched.{marks}
use Rattle.rr_lint_tree.proofs.Trees.{module_in, module_out, module_new}
use Rattle.rr_lint_tree.proofs.mending.new_module.Goals as goal

pub returns-then-not-has_number : goal.returns-then-not-has_number
returns-then-not-has_number c = λ numbers h. module_out (mended_body (marks c.args.noted.now)) numbers c.args.number c.args.old.now (sym (h c.args.number) ∙ sym c.has_number.ensures ∙ c.if-not-has_number.true)

pub returns : goal.returns
returns c = λ numbers h.
    module_in (mended_body (marks c.args.noted.now)) numbers c.args.number c.args.old.now
    (record { name = c.args.old.now.name; token = c.args.old.now.token; params = c.args.old.now.params; header = c.args.old.now.header; groups = c.args.old.now.groups; items = c.in_ok-items.items })
    (sym (h c.args.number) ∙ sym c.has_number.ensures ∙ c.if-not-has_number.false) (module_new (mended_body (marks c.args.noted.now)) c.args.old.now c.in_ok-items.items c.in_ok-items.ensures)
