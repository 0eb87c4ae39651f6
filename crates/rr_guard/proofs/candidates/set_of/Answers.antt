use Rattle.std.specs.Str.{bytes_eq}
use Rattle.rr_guard.proofs.Lists.{any_more, any_end}
use Rattle.rr_guard.proofs.candidates.set_of.Goals as goal

pub loop-text-preserved : goal.loop-text-preserved
loop-text-preserved c = λ name.
    any_more (bytes_eq name) (λ n. n.now) _ _ _ c.args.list.now c.loop-text.text-index _ c.loop-text-test.true (c.in_ok-add.ensures.among name) (c.loop-text.invariant name)

pub returns : goal.returns
returns c = λ name. any_end (bytes_eq name) (λ n. n.now) _ _ c.args.list.now c.loop-text.text-index c.loop-text-test.false (c.loop-text.invariant name)
