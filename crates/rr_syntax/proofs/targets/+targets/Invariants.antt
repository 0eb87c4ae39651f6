use Rattle.std.proofs.Common.{◌≡◌, take, true}
use Rattle.rr_syntax.specs.Expressions.{are_targets}
use Rattle.rr_syntax.specs.View.{plain_list}
use Rattle.rr_syntax.proofs.targets.+targets.Given as goal

abbrev pub invariant-are_targets-loop-part : goal.invariant-are_targets-loop-part
invariant-are_targets-loop-part l = are_targets (plain_list (take l.part-index l.parts)) ≡ true
