use Rattle.std.proofs.Common.{◌∙◌, ap, map}
use Rattle.rr_expr.specs.Scopes.{or_instance}
use Rattle.rr_flat.specs.View.{plain_signal}
use Rattle.rr_text_names.proofs.NamesOfParts.{named_sound}
use Rattle.rr_text_names.proofs.names.entity_named.Goals as goal

pub returns-in-Some-clause-sound : goal.returns-in-Some-clause-sound
returns-in-Some-clause-sound c =
    named_sound (map plain_signal c.args.flat.now.signals) c.in-Some.names.now c.args.name.now c.entity_of.result c.in-Some.ensures.sound (c.entity_of.ensures ∙ ap or_instance c.find.ensures)
