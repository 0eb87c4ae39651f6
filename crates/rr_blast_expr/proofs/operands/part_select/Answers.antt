use Rattle.rr_bits.specs.Words.{extend}
use Rattle.rr_syntax.specs.View.{plain}
use Rattle.rr_word_gates.proofs.Carrying.{carried1}
use Rattle.rr_blast_sites.specs.Instances.{place_of}
use Rattle.rr_blast_expr.proofs.Worths.{name-carried, part-carried}
use Rattle.rr_blast_expr.proofs.operands.part_select.Goals as goal

pub returns-clause-value : goal.returns-clause-value
returns-clause-value c = λ W h.
    carried1 (extend c.args.context.width c.args.context.signed) _ _ _ _ _ _ c.as_slice-2.ensures.value
    (part-carried (place_of c.args.inputs.now W) _ _ _ _ c.args.count c.args.name.now (plain c.args.right.now) _ _ _ c.meaning-entity.ensures c.entity_range-range.ensures c.constant_index-index.ensures c.as_slice.ensures.value
    (name-carried _ c.args.inputs.now W _ _ c.args.name.now c.meaning-entity.ensures h c.in_ok-word.ensures.value) c.in_ok-part.ensures.value)
    c.in_ok-out.ensures.value
