use Rattle.std.proofs.Common.{◌∙◌, sym}
use Rattle.std.proofs.lemmas.Bool.{and_parts}
use Rattle.rr_flat.specs.View.{plain_flat}
use Rattle.rr_clock.proofs.Clocking.{input_is_named}
use Rattle.rr_clock.proofs.clock.input_named.Goals as goal

pub returns-then-is_scalar_input-clause-some : goal.returns-then-is_scalar_input-clause-some
returns-then-is_scalar_input-clause-some c =
    let p = and_parts _ _ (sym c.is_scalar_input.ensures ∙ c.if-is_scalar_input.true) in
    input_is_named (plain_flat c.args.flat.now) c.args.name.now c.in-Some.id (sym c.scalar_named.ensures ∙ c.in-Some.is) p.0 p.1
