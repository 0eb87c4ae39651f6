use Rattle.std.proofs.Common.{◌≡◌, take}
use Rattle.rr_loop_rules.specs.Rules.{contains}
use Rattle.rr_loop_rules.specs.View.{plain_around}
use Rattle.rr_loop_rules.proofs.around.is_around.Given as goal

abbrev pub invariant-loop-inner : goal.invariant-loop-inner
invariant-loop-inner l = l.there ≡ contains (plain_around (take l.inner-index l.around)) l.name
