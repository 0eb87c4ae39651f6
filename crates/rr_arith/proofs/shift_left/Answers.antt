use Rattle.std.proofs.Common.{◌∙◌}
use Rattle.rr_arith.proofs.LeftLaws.{Left-all, AreWires-reverse}
use Rattle.rr_arith.proofs.shift_left.Goals as goal

pub shift_right-requires-clause-x : goal.shift_right-requires-clause-x
shift_right-requires-clause-x c = rw (c.as_slice.ensures.value, c.in_ok-turned.ensures) (AreWires-reverse _ _ c.requires.x)

pub returns-clause-wires : goal.returns-clause-wires
returns-clause-wires c = rw (c.in_ok-wires.ensures, c.as_slice-2.ensures.value) (AreWires-reverse _ _ c.in_ok-moved.ensures.wires)

pub returns-clause-value : goal.returns-clause-value
returns-clause-value c = Left-all _ _ _ _ _ _ _ _ _ (c.as_slice.ensures.value ∙ c.in_ok-turned.ensures) c.as_slice-2.ensures.value c.in_ok-wires.ensures c.constant-fill.ensures.value c.in_ok-moved.ensures.value
