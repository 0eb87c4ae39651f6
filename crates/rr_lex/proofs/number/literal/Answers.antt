use Rattle.rr_lex.proofs.Digits.{literal_is}
use Rattle.rr_lex.proofs.number.literal.Goals as goal

pub returns : goal.returns
returns c = literal_is c.args.size.now c.args.signed c.args.base c.args.digits.now c.args.width c.low_number.result c.low_number-2.result c.low_number-3.result c.cut.result c.cut-2.result c.cut-3.result
    c.requires.width c.requires.low c.low_number.ensures c.low_number-2.ensures c.low_number-3.ensures c.cut.ensures c.cut-2.ensures c.cut-3.ensures
