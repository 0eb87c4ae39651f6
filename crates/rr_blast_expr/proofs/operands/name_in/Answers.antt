use Rattle.rr_bits.specs.Words.{extend}
use Rattle.rr_word_gates.proofs.Carrying.{carried1}
use Rattle.rr_blast_expr.proofs.Worths.{name-carried}
use Rattle.rr_blast_expr.proofs.operands.name_in.Goals as goal

pub returns-clause-value : goal.returns-clause-value
returns-clause-value c = λ W h.
    carried1 (extend c.args.context.width c.args.context.signed) _ _ _ _ _ _ c.as_slice.ensures.value (name-carried _ c.args.inputs.now W _ _ c.args.name.now c.meaning-entity.ensures h c.in_ok-word.ensures.value) c.in_ok-out.ensures.value
