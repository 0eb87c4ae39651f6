use Rattle.std.proofs.lemmas.Result.{on_ok_weaker}
use Rattle.rr_order.proofs.Sided.{text_named, side_named}
use Rattle.rr_order.proofs.sides.add_named_by.Goals as goal

pub returns-in-Text : goal.returns-in-Text
returns-in-Text c = on_ok_weaker c.add_named_bits.result (λ g. text_named c.args.flat.now c.in-Text.expr c.in-Text.scope c.scope_at.result.now c.args.side.now _ _ c.in-Text.is c.scope_at.ensures.value g) c.add_named_bits.ensures

pub returns-in-Whole : goal.returns-in-Whole
returns-in-Whole c = on_ok_weaker c.add_signal.result (λ g. side_named c.args.flat.now c.in-Whole.id c.args.side.now _ _ c.in-Whole.is g) c.add_signal.ensures
