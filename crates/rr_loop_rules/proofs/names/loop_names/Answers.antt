use Rattle.rr_loop_rules.proofs.LoopsOfItems.{module_names}
use Rattle.rr_loop_rules.proofs.names.loop_names.Goals as goal

pub returns : goal.returns
returns c = module_names c.args.«module».now c.in_ok-loops.loops c.in_ok-names.names c.in_ok-loops.ensures c.in_ok-names.ensures
