use Rattle.std.proofs.Common.{◌≡◌, drop}
use Rattle.std.specs.Prelude.{flat_map}
use Rattle.rr_flat.specs.View.{plain_flat}
use Rattle.rr_assign.specs.Aims.{bad_of_part, bad_targets}
use Rattle.rr_text_names.specs.Firsts.{earliest}
use Rattle.rr_assign.proofs.aims.first_bad_target.Given as goal

abbrev pub invariant-loop-part : goal.invariant-loop-part
invariant-loop-part l = earliest (flat_map (bad_of_part (plain_flat l.flat)) (drop l.part-index l.walk)) ≡ earliest (bad_targets (plain_flat l.flat))
