use Rattle.std.proofs.Common.{arith}
use Rattle.rr_grammar.specs.ModuleForms.{one_module}
use Rattle.rr_parse.proofs.ListsRead.{all_as}
use Rattle.rr_parse.specs.Answer.{Answers}
use Rattle.rr_syntax.specs.View.{plain_module}
use Rattle.rr_parse.proofs.modules.modules.Goals as goal

pub returns : goal.returns
returns c = all_as (one_module 498 497) plain_module c.args.input.tokens.now (λ at o. Answers (one_module 498 497) plain_module c.args.input.tokens.now at o) 0 (omega arith) c.each_module.result c.each_module.ensures (λ at r h. h)
