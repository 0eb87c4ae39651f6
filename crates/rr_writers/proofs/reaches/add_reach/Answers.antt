use Rattle.std.proofs.Common.{◌∙◌, sym, ap}
use Rattle.std.proofs.lemmas.Result.{on_ok_weaker}
use Rattle.rr_named_bits.specs.Lists.{covered}
use Rattle.rr_writers.proofs.Reaching.{stands_there, pushed_reach}
use Rattle.rr_writers.proofs.reaches.add_reach.Goals as goal

pub returns-then-reach-lt2 : goal.returns-then-reach-lt2
returns-then-reach-lt2 c = on_ok_weaker c.push_reach.result (λ e b. pushed_reach c.args.list.now.items c.push_reach.new.list.items c.args.reach.now b e) c.push_reach.ensures

pub returns-then-stands_at : goal.returns-then-stands_at
returns-then-stands_at c = λ b. stands_there c.args.list.now.items c.args.reach.now b (λ h. sym (ap (λ z. covered z b) c.as_slice.ensures.value) ∙ c.stands_at.ensures c.if-stands_at.true b h)

pub returns : goal.returns
returns c = on_ok_weaker c.push_reach-2.result (λ e b. pushed_reach c.args.list.now.items c.push_reach-2.new.list.items c.args.reach.now b e) c.push_reach-2.ensures
