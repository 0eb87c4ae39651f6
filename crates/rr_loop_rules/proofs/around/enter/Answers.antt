use Rattle.std.proofs.Common.{◌∙◌, ap}
use Rattle.rr_loop_rules.specs.View.{plain_around}
use Rattle.rr_loop_rules.proofs.Entering.{around_last}
use Rattle.rr_loop_rules.proofs.around.enter.Goals as goal

pub returns : goal.returns
returns c = ap plain_around c.in_ok-push.ensures.items ∙ around_last c.args.around.now.items c.args.name
