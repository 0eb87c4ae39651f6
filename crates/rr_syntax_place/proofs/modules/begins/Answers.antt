use Rattle.rr_syntax_place.proofs.FirstWords.{begins_is}
use Rattle.rr_syntax_place.proofs.modules.begins.Goals as goal

pub returns : goal.returns
returns c = begins_is c.args.tokens.now c.is_keyword.result c.is_keyword.ensures
