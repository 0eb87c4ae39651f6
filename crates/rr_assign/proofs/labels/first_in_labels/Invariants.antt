use Rattle.std.proofs.Common.{◌≡◌, drop}
use Rattle.std.specs.Prelude.{flat_map}
use Rattle.rr_syntax.specs.View.{plain}
use Rattle.rr_text_names.specs.Firsts.{earliest}
use Rattle.rr_assign.specs.Labels.{wild_label}
use Rattle.rr_assign.proofs.labels.first_in_labels.Given as goal

abbrev pub invariant-loop-label : goal.invariant-loop-label
invariant-loop-label l =
    earliest (flat_map (λ x. wild_label l.kind.0 (plain x)) (drop l.label-index l.labels)) ≡ earliest (flat_map (λ x. wild_label l.kind.0 (plain x)) l.labels)
