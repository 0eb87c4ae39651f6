use Rattle.std.proofs.Common.{arith}
use Rattle.rr_flat.proofs.WalkLemmas.{flat_driven}
use Rattle.rr_flat.proofs.design.Flat.drive.Goals as goal

pub invariant_of-self-2 : goal.invariant_of-self-2
invariant_of-self-2 c = flat_driven _ _ _ _ _ _ _ _ _ _ _ _ _ _ _ _ c.self.invariant (rw (← c.self.view_is) at c.requires) c.in_ok-push.ensures.items c.push_reserved.ensures.items c.in_ok-reserve.ensures.items
    (omega (arith, c.in_ok-number.ensures, c.len.ensures, c.self.inside.drivers.ok.0))
