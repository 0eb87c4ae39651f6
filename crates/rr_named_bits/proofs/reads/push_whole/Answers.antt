use Rattle.std.proofs.lemmas.Result.{on_ok_weaker}
use Rattle.rr_named_bits.proofs.Growing.{grown_at}
use Rattle.rr_named_bits.proofs.Naming.{whole_pushed}
use Rattle.rr_named_bits.proofs.reads.push_whole.Goals as goal

pub returns : goal.returns
returns c = on_ok_weaker c.push_reach.result (λ e. grown_at _ _ _ _ e (whole_pushed c.args.list.now.items c.reach_of.result c.args.entity.now c.reach_of.ensures)) c.push_reach.ensures
