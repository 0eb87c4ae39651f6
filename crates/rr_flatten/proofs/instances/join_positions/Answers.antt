use Rattle.std.proofs.Common.{◌∙◌, sym}
use Rattle.rr_flatten.specs.Kept.{plain_walked}
use Rattle.rr_flat.specs.Sound.{names_at}
use Rattle.rr_syntax.specs.View.{texts}
use Rattle.rr_flatten.proofs.Grown.{expression_here, positions_more, positions_done, same_twice}
use Rattle.rr_flatten.proofs.instances.join_positions.Goals as goal

pub join_position-requires-clause-there : goal.join_position-requires-clause-there
join_position-requires-clause-there c = rw c.loop-place.invariant.same.scopes c.requires.there

pub join_position-requires-clause-inside : goal.join_position-requires-clause-inside
join_position-requires-clause-inside c = rw c.loop-place.invariant.same.scopes c.requires.inside

pub join_position-requires-clause-expression : goal.join_position-requires-clause-expression
join_position-requires-clause-expression c = rw c.loop-place.invariant.same.scopes
    (expression_here (names_at c.args.walked.now.flat.scopes c.args.number) c.args.list.now c.loop-place.place c.index-list-place.result c.requires.connected c.loop-place-test.true c.index-list-place.is)

pub loop-place-preserved : goal.loop-place-preserved
loop-place-preserved c = record {
  walked = positions_more c.args.number c.args.inner (texts c.args.ports.now) c.args.list.now c.loop-place.place c.index-list-place.result (plain_walked c.loop-place.walked) (plain_walked c.join_position.new.walked) c.loop-place-test.true c.index-list-place.is
      c.in_ok-join_position.ensures.value
      ∙ c.loop-place.invariant.walked;
  same = same_twice _ _ _ c.loop-place.invariant.same c.in_ok-join_position.ensures.same;
}

pub returns-clause-value : goal.returns-clause-value
returns-clause-value c = sym (positions_done c.args.number c.args.inner _ c.args.list.now c.loop-place.place (plain_walked c.loop-place.walked) c.loop-place-test.false) ∙ c.loop-place.invariant.walked
