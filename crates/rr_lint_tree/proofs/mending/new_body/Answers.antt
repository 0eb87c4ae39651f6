use Rattle.std.proofs.Common.{ap, ap₂, ◌∙◌}
use Rattle.rr_syntax.specs.View.{plain_statement, texts}
use Rattle.rr_lint_laws.specs.Mended.{with_defaults}
use Rattle.rr_lint_tree.proofs.mending.new_body.Goals as goal

pub returns : goal.returns
returns c = ap plain_statement c.in_ok-new.ensures ∙ c.in_ok-whole.ensures ∙ ap₂ with_defaults (ap texts c.as_slice.ensures.value ∙ c.in_ok-names.ensures) c.in_ok-inner.ensures
