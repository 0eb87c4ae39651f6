use Rattle.std.proofs.Common.{◌∙◌, sym}
use Rattle.rr_patch.specs.Changes.{plain_changes}
use Rattle.rr_lint_names.specs.Latched.{marks}
use Rattle.rr_lint.proofs.Items.{numbered_in, numbered_out}
use Rattle.rr_lint.proofs.changes.numbered.Goals as goal

pub returns-in_ok-declaration : goal.returns-in_ok-declaration
returns-in_ok-declaration c = λ numbers h.
    numbered_in (marks c.args.noted.now) numbers (plain_changes c.args.out.now.items) (plain_changes c.declaration.new.out.items) c.args.number c.args.one.now (sym (h c.args.number) ∙ sym c.has_number.ensures ∙ c.if-has_number.true) c.in_ok-declaration.ensures

pub returns-else-has_number : goal.returns-else-has_number
returns-else-has_number c = λ numbers h. numbered_out (marks c.args.noted.now) numbers (plain_changes c.args.out.now.items) c.args.number c.args.one.now (sym (h c.args.number) ∙ sym c.has_number.ensures ∙ c.if-has_number.false)
