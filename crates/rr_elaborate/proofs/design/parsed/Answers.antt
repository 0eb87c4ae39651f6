use Rattle.std.proofs.Common.{option_map}
use Rattle.rr_elaborate.proofs.Reading.{few_of, fit_of, text_of}
use Rattle.rr_elaborate.proofs.design.parsed.Goals as goal

pub flattened-requires-clause-few : goal.flattened-requires-clause-few
flattened-requires-clause-few c = few_of c.args.tokens.now c.in-Ok.source.now c.in-Ok.ensures.exact c.requires.few

pub flattened-requires-clause-formed : goal.flattened-requires-clause-formed
flattened-requires-clause-formed c = c.in-Ok.ensures.exact.spelled.tree.spells.well

pub flattened-requires-clause-fit : goal.flattened-requires-clause-fit
flattened-requires-clause-fit c = fit_of c.requires.lexed.0 c.args.tokens.now c.in-Ok.source.now c.requires.lexed.1 c.in-Ok.ensures.exact

pub returns-in-Ok-clause-answer : goal.returns-in-Ok-clause-answer
returns-in-Ok-clause-answer c = λ bytes lexed. c.flattened.ensures.answer bytes (text_of bytes c.args.tokens.now c.in-Ok.source.now lexed c.in-Ok.ensures.exact)

pub returns-in-Err-clause-answer : goal.returns-in-Err-clause-answer
returns-in-Err-clause-answer c = λ bytes lexed. c.of_tokens.ensures bytes (option_map (λ n. n.now) c.args.top) lexed

pub returns-in-Ok-clause-tree : goal.returns-in-Ok-clause-tree
returns-in-Ok-clause-tree c = λ bytes lexed. c.flattened.ensures.tree bytes (text_of bytes c.args.tokens.now c.in-Ok.source.now lexed c.in-Ok.ensures.exact)
