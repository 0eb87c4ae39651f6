use Rattle.rr_expr.specs.declared.types.Entity.TheVariants.{Signal}
use Rattle.rr_cycle_tests.proofs.Declaring.{declared, signal_inside}
use Rattle.rr_cycle_tests.proofs.statements.declare.Goals as goal

pub returns : goal.returns
returns c = λ n l h.
    declared c.in_ok-add.field-0 c.args.scope.now c.add.new.self c.args.name.now (Signal c.args.id c.args.range c.args.signed) n c.in_ok-add.ensures.added
    (signal_inside c.args.id c.args.range c.args.signed n c.requires l) h
