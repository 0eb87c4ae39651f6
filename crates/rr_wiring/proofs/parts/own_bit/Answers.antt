use Rattle.std.proofs.Common.{◌∙◌, ap, get_or, List, Bool, false}
use Rattle.rr_syntax.specs.View.{plain}
use Rattle.rr_expr.specs.declared.types.Shape.{Shape}
use Rattle.rr_expr.specs.Scopes.{env_of}
use Rattle.rr_expr.specs.Values.{value}
use Rattle.rr_wiring.proofs.Bits.{bit_past, bits_of_parts}
use Rattle.rr_wiring.proofs.parts.own_bit.Goals as goal

pub returns-in-Some : goal.returns-in-Some
returns-in-Some c =
    c.get.ensures
    ∙ ap (λ (xs : List Bool). get_or xs c.in-Some.part.place false)
    (c.value.ensures ∙ ap (λ (a : Shape). value c.args.scope.now (plain c.in-Some.part.expr.now) (env_of c.args.env.now.values.items) a.width a.signed) c.shape_of-shape.ensures.value)
    ∙ bits_of_parts c.args.scope.now (plain c.in-Some.part.expr.now) c.in-Some.part.place (plain c.args.expr.now) c.args.place (env_of c.args.env.now.values.items) c.in-Some.ensures.part

pub returns-in-None : goal.returns-in-None
returns-in-None c = bit_past c.args.scope.now (plain c.args.expr.now) (env_of c.args.env.now.values.items) c.args.place c.in-None.ensures.past
