use Rattle.std.proofs.Common.{◌∙◌}
use Rattle.rr_bits.proofs.Operators.{held, select_past, select_up, select_down}
use Rattle.std.proofs.lemmas.Int.{to_z-of_z}
use mir.Syntax.{w64}
use Rattle.rr_bits.proofs.Bits.select.Goals as goal

pub returns-then-far-ge128 : goal.returns-then-far-ge128
returns-then-far-ge128 c =
    let far = rw (to_z-of_z w64 c.args.from c.ranges.from) at c.unsigned_abs-far.ensures.value in
    c.from_u128.ensures ∙ select_past _ _ _ _ _ _ (held _ _ _ c.self.invariant c.self.view_is) far c.if-far-ge128.true c.requires.high

pub returns-then-from-lt0 : goal.returns-then-from-lt0
returns-then-from-lt0 c =
    let far = rw (to_z-of_z w64 c.args.from c.ranges.from) at c.unsigned_abs-far.ensures.value in
    let down = rw (to_z-of_z w64 c.args.from c.ranges.from) at c.if-from-lt0.true in
    c.from_u128-then-from-lt0.ensures ∙ select_down _ _ _ _ _ _ (held _ _ _ c.self.invariant c.self.view_is) c.requires.high far down

pub returns-else-from-lt0 : goal.returns-else-from-lt0
returns-else-from-lt0 c =
    let far = rw (to_z-of_z w64 c.args.from c.ranges.from) at c.unsigned_abs-far.ensures.value in
    let up = rw (to_z-of_z w64 c.args.from c.ranges.from) at c.if-from-lt0.false in
    c.from_u128-else-from-lt0.ensures ∙ select_up _ _ _ _ _ _ (held _ _ _ c.self.invariant c.self.view_is) far up
