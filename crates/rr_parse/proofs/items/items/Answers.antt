use Rattle.rr_grammar.specs.ItemForms.{item}
use Rattle.rr_parse.proofs.ListsRead.{all_as}
use Rattle.rr_parse.specs.Answer.{Answers}
use Rattle.rr_syntax.specs.View.{plain_item}
use Rattle.rr_parse.proofs.items.items.Goals as goal

pub returns : goal.returns
returns c = all_as (item c.args.depth) plain_item c.args.input.tokens.now (λ at o. Answers (item c.args.depth) plain_item c.args.input.tokens.now at o) c.args.from c.requires.inside c.each_item.result c.each_item.ensures (λ at r h. h)
