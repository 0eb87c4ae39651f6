use Rattle.std.proofs.Common.{◌∙◌, ap, nat_eq, ℕ}
use Rattle.std.specs.List.{list_any}
use Rattle.rr_flat.specs.View.{Design}
use Rattle.rr_lint_names.specs.Latched.{marks}
use Rattle.rr_lint_tree.proofs.mending.lint.Goals as goal

pub returns : goal.returns
returns c = record {
  mended = record {
    marks = marks c.in_ok-noted.noted;
    latched = c.in_ok-noted.ensures.0;
    words = c.in_ok-noted.ensures.1;
    is = c.in_ok-mended.ensures c.args.flat.now.reached (λ (k : ℕ). c.in_ok-reached.ensures k ∙ ap (list_any (nat_eq k)) (c.as_slice.ensures.value ∙ ap (λ (d : Design). d.reached) c.flat.view_is));
  };
}
