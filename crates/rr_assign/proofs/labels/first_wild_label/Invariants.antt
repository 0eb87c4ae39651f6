use Rattle.std.proofs.Common.{◌≡◌, drop}
use Rattle.std.specs.Prelude.{flat_map}
use Rattle.rr_flat.specs.View.{plain_flat}
use Rattle.rr_assign.specs.Labels.{wild_of_part, all_wild}
use Rattle.rr_text_names.specs.Firsts.{earliest}
use Rattle.rr_assign.proofs.labels.first_wild_label.Given as goal

abbrev pub invariant-loop-part : goal.invariant-loop-part
invariant-loop-part l = earliest (flat_map (wild_of_part (plain_flat l.flat)) (drop l.part-index l.walk)) ≡ earliest (all_wild (plain_flat l.flat))
