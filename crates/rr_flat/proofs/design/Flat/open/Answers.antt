use Rattle.std.proofs.Common.{◌<◌, length, refl}
use Rattle.rr_flat.proofs.Flats.{flat_opened}
use Rattle.rr_flat.proofs.design.Flat.open.Goals as goal

pub invariant_of-self-2 : goal.invariant_of-self-2
invariant_of-self-2 c =
    let head = rw (← c.self.view_is) at c.requires.head in
    let few : length c.self.inside.scopes.items < 256 = rw (← c.self.view_is) at c.requires.few in
    rw (c.in_ok-extend_from_slice.ensures.items, c.push_reserved.ensures.items, c.in_ok-reserve-2.ensures.items, c.push_reserved-2.ensures.items, c.in_ok-reserve.ensures.items, c.add_starts.ensures, c.in_ok-reserve-3.ensures.items)
    (flat_opened c.self.inside.signals.items c.args.signals.now c.self.inside.scopes.items c.args.scope c.self.inside.drivers.items c.self.inside.clocked.items c.self.inside.combinational.items c.self.inside.walk.items
    c.self.inside.inputs.items c.self.inside.outputs.items c.self.inside.owners.items c.self.inside.starts.items c.self.inside.initials.items _ _ head.0 c.args.owner c.self.invariant head.1 refl refl few)
