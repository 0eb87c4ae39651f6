use Rattle.rr_patch.specs.Changes.{plain_changes}
use Rattle.rr_lint_names.specs.Latched.{marks}
use Rattle.rr_lint.proofs.Items.{module_adds}
use Rattle.rr_lint.proofs.changes.declaration.Goals as goal

pub returns : goal.returns
returns c = module_adds (marks c.args.noted.now) (plain_changes c.args.out.now.items) (plain_changes c.items.new.out.items) c.args.declaration.now c.in_ok-items.ensures
