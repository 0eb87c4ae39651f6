use Rattle.std.proofs.Common.{ap, map}
use Rattle.rr_directive.proofs.Names.{nothing_known}
use Rattle.rr_directive.proofs.definitions.Definitions.new.Goals as goal

pub returns : goal.returns
returns c =
    let k = nothing_known _ _ _ (ap (λ ks. map (λ k. k.now) ks) c.new.ensures.empty) c.new-2.ensures.items c.new-3.ensures.items in
    record { has = k.0; closed = k.1 }
