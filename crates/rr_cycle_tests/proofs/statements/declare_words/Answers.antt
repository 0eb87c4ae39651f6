use Rattle.std.proofs.Common.{false}
use Rattle.rr_expr.specs.declared.types.Entity.TheVariants.{Memory}
use Rattle.rr_cycle_tests.proofs.Declaring.{declared, memory_inside}
use Rattle.rr_cycle_tests.proofs.statements.declare_words.Goals as goal

pub returns : goal.returns
returns c = λ n l h.
    declared c.in_ok-add.field-0 c.args.scope.now c.add.new.self c.args.name.now (Memory c.args.first c.args.low c.args.words c.args.range false) n c.in_ok-add.ensures.added
    (memory_inside c.args.first c.args.low c.args.words c.args.range false n c.requires l) h
