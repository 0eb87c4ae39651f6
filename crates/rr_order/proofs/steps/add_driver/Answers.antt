use Rattle.std.proofs.Common.{◌∙◌, sym}
use Rattle.rr_flat.specs.View.{plain_flat, plain_side}
use Rattle.rr_order.proofs.Growing.{wires_is, value_is}
use Rattle.rr_order.proofs.steps.add_driver.Goals as goal

pub add_wires-requires-clause-wires : goal.add_wires-requires-clause-wires
add_wires-requires-clause-wires c = sym (wires_is (plain_flat c.args.flat.now) c.args.number (plain_side c.driver_at-driver.result.value) (value_is c.args.flat.now c.args.number c.driver_at-driver.result c.driver_at-driver.ensures.value)) ∙ (sym c.wires.ensures ∙ c.if-wires.true)

pub add_whole-requires-clause-plain : goal.add_whole-requires-clause-plain
add_whole-requires-clause-plain c = sym (wires_is (plain_flat c.args.flat.now) c.args.number (plain_side c.driver_at-driver.result.value) (value_is c.args.flat.now c.args.number c.driver_at-driver.result c.driver_at-driver.ensures.value)) ∙ (sym c.wires.ensures ∙ c.if-wires.false)
