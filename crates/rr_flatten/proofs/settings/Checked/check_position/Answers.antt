use Rattle.rr_flatten.proofs.Positions.{position_there}
use Rattle.rr_flatten.proofs.settings.Checked.check_position.Goals as goal

pub returns-then-place-free : goal.returns-then-place-free
returns-then-place-free c = position_there c.args.names.now c.args.free.now c.args.place _ c.args.over _ _ _ c.if-place-free.true c.in_ok-give.ensures
