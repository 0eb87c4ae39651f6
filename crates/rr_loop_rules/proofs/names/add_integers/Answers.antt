use Rattle.rr_loop_rules.specs.Rules.{with_integer}
use Rattle.rr_loop_rules.proofs.Folds.{map_more, map_done}
use Rattle.rr_loop_rules.proofs.names.add_integers.Goals as goal

pub loop-integer-preserved : goal.loop-integer-preserved
loop-integer-preserved c =
    map_more (λ n. n.name.now) (with_integer c.args.loops.now) c.args.list.now c.loop-integer.integer-index _ c.loop-integer.names _ _ c.loop-integer-test.true c.in_ok-add_integer.ensures c.loop-integer.invariant

pub returns : goal.returns
returns c = map_done (λ n. n.name.now) (with_integer c.args.loops.now) c.args.list.now c.loop-integer.integer-index c.loop-integer.names _ c.loop-integer-test.false c.loop-integer.invariant
