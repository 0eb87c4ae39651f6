use Rattle.std.proofs.Common.{sym, arith}
use Rattle.rr_edit.proofs.Adjoining.{adjoin_not_exact, adjoin_not_next, adjoin_goes, adjoin_all}
use Rattle.rr_edit.proofs.lifting.adjoin.Goals as goal

pub returns-then-not-origin : goal.returns-then-not-origin
returns-then-not-origin c = adjoin_not_exact c.args.origins.now c.loop-i.i _ c.loop-i-test.true c.if-not-origin.true c.loop-i.invariant.rest

pub returns-then-not-is_next : goal.returns-then-not-is_next
returns-then-not-is_next c = adjoin_not_next c.args.origins.now c.loop-i.i _ c.loop-i-test.true c.if-not-origin.false (sym c.if-not-is_next.ensures) c.loop-i.invariant.rest

pub loop-i-preserved : goal.loop-i-preserved
loop-i-preserved c = record {
  within = let l = c.loop-i-test.true in omega (arith, l);
  rest = adjoin_goes c.args.origins.now c.loop-i.i _ c.loop-i-test.true c.if-not-origin.false (sym c.if-not-is_next.ensures) c.loop-i.invariant.rest;
}

pub returns : goal.returns
returns c = adjoin_all c.args.origins.now c.loop-i.i c.loop-i-test.false c.loop-i.invariant.rest
