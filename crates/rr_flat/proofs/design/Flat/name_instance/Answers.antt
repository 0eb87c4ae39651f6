use Rattle.std.proofs.Common.{◌<◌, [], length}
use Rattle.std.proofs.lemmas.List.{get_or_read}
use Rattle.rr_flat.proofs.Flats.{flat_named_at}
use Rattle.rr_flat.proofs.design.Flat.name_instance.Goals as goal

pub invariant_of-self-2 : goal.invariant_of-self-2
invariant_of-self-2 c =
    let lt : c.args.number < length c.self.inside.scopes.items = rw (← c.self.view_is) at c.requires in
    flat_named_at _ _ _ _ _ _ _ _ _ _ _ c.args.number c.args.name.now _ _ c.self.invariant lt (get_or_read c.self.inside.scopes.items c.args.number _ lt c.index_mut.ensures.value []) c.in_ok-add_instance.ensures.added
