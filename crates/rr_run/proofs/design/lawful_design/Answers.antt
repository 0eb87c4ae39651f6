use Rattle.std.proofs.Common.{option_map}
use Rattle.rr_run.proofs.design.lawful_design.Goals as goal

pub returns-in-Err-clause-answer : goal.returns-in-Err-clause-answer
returns-in-Err-clause-answer c = c.of_design.ensures c.args.bytes.now (option_map (λ n. n.now) c.args.top) (option_map (λ w. w.now) c.args.clock) c.in-Err.ensures.answer
