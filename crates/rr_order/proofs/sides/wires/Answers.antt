use Rattle.std.proofs.Common.{◌∙◌}
use Rattle.rr_order.proofs.Sided.{whole_wires, text_wires}
use Rattle.rr_order.proofs.sides.wires.Goals as goal

pub returns-in-Whole : goal.returns-in-Whole
returns-in-Whole c = whole_wires c.args.flat.now _ c.args.side.now c.in-Whole.is

pub returns-in-Text : goal.returns-in-Text
returns-in-Text c = c.is_wiring.ensures ∙ text_wires c.args.flat.now c.in-Text.expr c.in-Text.scope c.scope_at.result.now c.args.side.now c.in-Text.is c.scope_at.ensures.value
