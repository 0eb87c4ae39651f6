use Rattle.std.proofs.lemmas.Result.{on_ok_weaker}
use Rattle.rr_named_bits.proofs.Growing.{grown_at}
use Rattle.rr_named_bits.proofs.Naming.{fixed_pushed}
use Rattle.rr_named_bits.proofs.reads.push_fixed.Goals as goal

pub returns : goal.returns
returns c =
    on_ok_weaker c.push_reach.result
    (λ e. grown_at _ _ _ _ e (fixed_pushed c.args.list.now.items c.one.result _ _ c.one.ensures.bits (rw c.requires.none at c.in_ok-piece.ensures))) c.push_reach.ensures
