use Rattle.std.proofs.Common.{◌∙◌, sym}
use Rattle.rr_syntax.specs.Items.{WellFormedDeclarator, FitLiteralsDeclarator}
use Rattle.rr_syntax.specs.View.{plain_declarator}
use Rattle.rr_declarations.proofs.Steps.{each_more, each_stops, each_done, refused}
use Rattle.rr_flatten.specs.Kept.{plain_walked}
use Rattle.rr_flatten.specs.Walk.{net}
use Rattle.rr_flatten.proofs.Grown.{each_at, same_loops, same_twice}
use Rattle.rr_flatten.proofs.items.nets.Goals as goal

pub net-requires-clause-there : goal.net-requires-clause-there
net-requires-clause-there c = rw c.loop-one.invariant.same.scopes c.requires.there

pub net-requires-clause-loops : goal.net-requires-clause-loops
net-requires-clause-loops c = same_loops _ _ c.requires.loops c.loop-one.invariant.same

pub net-requires-clause-formed : goal.net-requires-clause-formed
net-requires-clause-formed c = each_at WellFormedDeclarator plain_declarator c.args.list.now c.loop-one.one-index _ c.requires.formed c.loop-one-test.true

pub net-requires-clause-fit : goal.net-requires-clause-fit
net-requires-clause-fit c = each_at FitLiteralsDeclarator plain_declarator c.args.list.now c.loop-one.one-index _ c.requires.fit c.loop-one-test.true

pub loop-one-preserved : goal.loop-one-preserved
loop-one-preserved c = record {
  walked = each_more plain_declarator (net c.args.number) c.args.list.now c.loop-one.one-index _ (plain_walked c.loop-one.walked) (plain_walked c.net.new.walked) c.loop-one-test.true c.in_ok-net.ensures.value ∙ c.loop-one.invariant.walked;
  same = same_twice _ _ _ c.loop-one.invariant.same c.in_ok-net.ensures.same;
}

pub returns-in_err-net-clause-value : goal.returns-in_err-net-clause-value
returns-in_err-net-clause-value c =
    let h = each_stops plain_declarator (net c.args.number) c.args.list.now c.loop-one.one-index _ (plain_walked c.loop-one.walked) c.in_err-net.field-0.0 c.loop-one-test.true c.in_err-net.ensures.value in
    refused c.from_residual.result _ _ c.in_err-net.field-0.0 c.from_residual.ensures.1 (rw c.loop-one.invariant.walked at h)

pub returns-clause-value : goal.returns-clause-value
returns-clause-value c = sym c.loop-one.invariant.walked ∙ each_done _ _ _ _ _ c.loop-one-test.false
