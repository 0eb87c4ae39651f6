use Rattle.std.proofs.Common.{ap, arith}
use Rattle.rr_expr.specs.declared.types.Shape.{Shape}
use Rattle.rr_wiring.specs.Parts.{itself}
use Rattle.rr_wiring.proofs.parts.whole.Goals as goal

pub returns-then-place-shape_of : goal.returns-then-place-shape_of
returns-then-place-shape_of c = record {
  part = itself;
  single = c.requires.single;
  none = c.requires.none;
  within = omega (arith, ap (λ (a : Shape). a.width) c.shape_of.ensures.value, c.if-place-shape_of.true);
  past = tt;
}
