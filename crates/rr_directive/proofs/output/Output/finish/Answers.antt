use Rattle.rr_directive.proofs.Outputs.{shown_same}
use Rattle.rr_directive.proofs.output.Output.finish.Goals as goal

pub invariant_of-result : goal.invariant_of-result
invariant_of-result c = record { same = shown_same c.args.self c.requires.0 c.requires.1 }
