use Rattle.rr_order.proofs.Sided.{whole_signed, text_signed}
use Rattle.rr_order.proofs.sides.is_signed.Goals as goal

pub returns-in-Whole : goal.returns-in-Whole
returns-in-Whole c = whole_signed c.args.flat.now c.in-Whole.id c.signal_at.result.now c.args.side.now c.signal_at.ensures.value c.in-Whole.is

pub returns-in-Ok : goal.returns-in-Ok
returns-in-Ok c = text_signed c.args.flat.now c.in-Text.expr c.in-Text.scope c.scope_at.result.now c.args.side.now c.in-Ok.own c.in-Text.is c.scope_at.ensures.value c.in-Ok.ensures.value
