use Rattle.std.proofs.Common.{◌≡◌, drop}
use Rattle.std.specs.Prelude.{flat_map}
use Rattle.rr_flat.specs.View.{plain_flat}
use Rattle.rr_text_names.specs.Firsts.{earliest}
use Rattle.rr_assign.specs.Aims.{bad_assigned}
use Rattle.rr_text_names.specs.View.{plain_target}
use Rattle.rr_assign.proofs.aims.first_bad_assigned.Given as goal

abbrev pub invariant-loop-target : goal.invariant-loop-target
invariant-loop-target l = earliest (flat_map (λ t. bad_assigned l.starting (plain_flat l.flat) l.scope (plain_target t)) (drop l.target-index l.targets)) ≡ earliest (flat_map (λ t. bad_assigned l.starting (plain_flat l.flat) l.scope (plain_target t)) l.targets)
