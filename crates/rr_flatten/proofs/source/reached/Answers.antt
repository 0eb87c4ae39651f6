use Rattle.std.proofs.Common.{◌∙◌, sym, arith}
use Rattle.rr_flatten.proofs.Ends.{reached_more, reached_done}
use Rattle.rr_flatten.proofs.source.reached.Goals as goal

pub loop-place-preserved : goal.loop-place-preserved
loop-place-preserved c = reached_more c.args.owners.now c.args.modules.now c.loop-place.place _ c.loop-place.reached.items c.push_if.new.numbers.items (omega (arith, c.loop-place-test.true)) c.is_among.ensures c.in_ok-push_if.ensures ∙ c.loop-place.invariant

pub returns : goal.returns
returns c = sym (reached_done c.args.owners.now c.args.modules.now c.loop-place.place c.loop-place.reached.items (omega (arith, c.loop-place-test.false))) ∙ c.loop-place.invariant
