use Rattle.std.proofs.Common.{option_map}
use Rattle.rr_elaborate.proofs.design.elaborate.Goals as goal

pub returns-in-Err-clause-answer : goal.returns-in-Err-clause-answer
returns-in-Err-clause-answer c = c.of_text.ensures c.args.bytes.now (option_map (λ n. n.now) c.args.top) c.in-Err.ensures.answer
