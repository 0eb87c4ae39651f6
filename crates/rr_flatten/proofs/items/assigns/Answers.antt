use Rattle.std.proofs.Common.{◌∙◌, sym}
use Rattle.rr_syntax.specs.Items.{WellFormedPair, FitLiteralsPair}
use Rattle.rr_syntax.specs.View.{plain_pair}
use Rattle.rr_declarations.proofs.Steps.{each_more, each_stops, each_done, refused}
use Rattle.rr_flatten.specs.Kept.{plain_walked}
use Rattle.rr_flatten.specs.Walk.{assign}
use Rattle.rr_flatten.proofs.Grown.{each_at, same_loops, same_twice}
use Rattle.rr_flatten.proofs.items.assigns.Goals as goal

pub assign-requires-clause-there : goal.assign-requires-clause-there
assign-requires-clause-there c = rw c.loop-pair.invariant.same.scopes c.requires.there

pub assign-requires-clause-loops : goal.assign-requires-clause-loops
assign-requires-clause-loops c = same_loops _ _ c.requires.loops c.loop-pair.invariant.same

pub assign-requires-clause-formed : goal.assign-requires-clause-formed
assign-requires-clause-formed c = each_at WellFormedPair plain_pair c.args.pairs.now c.loop-pair.pair-index _ c.requires.formed c.loop-pair-test.true

pub assign-requires-clause-fit : goal.assign-requires-clause-fit
assign-requires-clause-fit c = each_at FitLiteralsPair plain_pair c.args.pairs.now c.loop-pair.pair-index _ c.requires.fit c.loop-pair-test.true

pub loop-pair-preserved : goal.loop-pair-preserved
loop-pair-preserved c = record {
  walked = each_more plain_pair (assign c.args.number) c.args.pairs.now c.loop-pair.pair-index _ (plain_walked c.loop-pair.walked) (plain_walked c.assign.new.walked) c.loop-pair-test.true c.in_ok-assign.ensures.value ∙ c.loop-pair.invariant.walked;
  same = same_twice _ _ _ c.loop-pair.invariant.same c.in_ok-assign.ensures.same;
}

pub returns-in_err-assign-clause-value : goal.returns-in_err-assign-clause-value
returns-in_err-assign-clause-value c =
    let h = each_stops plain_pair (assign c.args.number) c.args.pairs.now c.loop-pair.pair-index _ (plain_walked c.loop-pair.walked) c.in_err-assign.field-0.0 c.loop-pair-test.true c.in_err-assign.ensures.value in
    refused c.from_residual.result _ _ c.in_err-assign.field-0.0 c.from_residual.ensures.1 (rw c.loop-pair.invariant.walked at h)

pub returns-clause-value : goal.returns-clause-value
returns-clause-value c = sym c.loop-pair.invariant.walked ∙ each_done _ _ _ _ _ c.loop-pair-test.false
