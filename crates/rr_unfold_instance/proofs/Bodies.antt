-- Unfolded bodies in which a choice is made.
use Rattle.std.proofs.Common.{inr, [], ◌∙◌, ap}
use Rattle.rr_choice.specs.Places.{is_overwrite_at}
use Rattle.rr_instance.specs.Instances.{all_overwritten, instance_statement}
use Rattle.rr_instance_laws.specs.Tests.{IsNameAt}
use Rattle.rr_unfold_instance.specs.Laws.{UnfoldedInstances, CountedInstances, UnfoldedNames, UnfoldedFirsts}
use Rattle.rr_unfold_instance.proofs.Turning.{statement_unfolds}
use Rattle.rr_unfold_instance.proofs.LastAssignments.{all_unfold}
use Rattle.rr_unfold_instance.proofs.TurnCounts.{body_counts}
use Rattle.rr_unfold_instance.proofs.GuardNames.{in_either, statement_guards}
use Rattle.rr_unfold_instance.proofs.Beginnings.{told_stays}

pub body_unfolds : UnfoldedInstances
body_unfolds ss ps names s token body h n f =
    all_unfold s token ss ps (instance_statement ss ps body) ∙ ap (all_overwritten token ss ps) (statement_unfolds ss ps names s [] [] body tt h (λ x k. n x (inr k)) f)

pub body_turns : CountedInstances
body_turns = body_counts

pub body_names : UnfoldedNames
body_names ss s token body name k = in_either (λ (q : IsNameAt ss (is_overwrite_at token) name). q) (statement_guards ss s name body []) k

pub body_begins : UnfoldedFirsts
body_begins s body = told_stays s body

pub ruleset unfolded_laws = (body_unfolds, body_turns, body_names, body_begins)
