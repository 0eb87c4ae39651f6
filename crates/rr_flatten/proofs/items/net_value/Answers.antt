use Rattle.rr_flatten.proofs.Clears.{one_clear}
use Rattle.rr_flatten.proofs.Grown.{place_if}
use Rattle.rr_flatten.proofs.items.net_value.Goals as goal

pub drive_net-requires-clause-value : goal.drive_net-requires-clause-value
drive_net-requires-clause-value c = (c.requires.there, one_clear _ _ _ _ _ c.names_of-names.ensures.value c.requires.formed c.requires.fit c.note_expression.ensures c.in_default.is)

pub drive_net-requires-clause-target : goal.drive_net-requires-clause-target
drive_net-requires-clause-target c = place_if _ _ _ _ c.names_of-names.ensures.scope c.place_of-id.ensures
