use Rattle.std.proofs.Common.{◌∙◌, ap}
use Rattle.std.proofs.lemmas.Result.{IfOk-weaker}
use Rattle.rr_named_bits.specs.Pieces.{all_bits}
use Rattle.rr_order.proofs.Sided.{none_left}
use Rattle.rr_order.proofs.sides.driven.Goals as goal

pub returns : goal.returns
returns c =
    IfOk-weaker c.bits_of_all.result _ _
    (λ r e. e ∙ (ap all_bits c.as_slice.ensures.value ∙ none_left _ _ _ c.new-pieces.ensures.items c.in_ok-add_driven.ensures)) c.bits_of_all.ensures
