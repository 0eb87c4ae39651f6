use Rattle.rr_loop_rules.proofs.Entering.{left}
use Rattle.rr_loop_rules.proofs.around.leave.Goals as goal

pub returns : goal.returns
returns c = left c.args.around.now.items c.pop.new.self.items c.pop.result c.args.around.now.len c.pop.new.self.len c.pop.new.self.ok.0 c.pop.ensures.items c.pop.ensures.cases
