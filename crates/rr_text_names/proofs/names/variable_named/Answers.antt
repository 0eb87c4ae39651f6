use Rattle.std.proofs.Common.{◌∙◌, ap, length, map}
use Rattle.std.proofs.lemmas.List.{length-map}
use Rattle.rr_flat.specs.Targets.{variable_of}
use Rattle.rr_flat.specs.View.{plain_signal}
use Rattle.rr_text_names.proofs.NamesOfParts.{variable_below}
use Rattle.rr_text_names.proofs.names.variable_named.Goals as goal

pub returns-clause-value : goal.returns-clause-value
returns-clause-value c = c.variable_of.ensures ∙ ap variable_of c.entity_named.ensures.value

pub returns-clause-inside : goal.returns-clause-inside
returns-clause-inside c =
    variable_below (map plain_signal c.args.flat.now.signals) (length c.args.flat.now.signals) c.entity_named.result c.variable_of.result (length-map c.args.flat.now.signals plain_signal) c.entity_named.ensures.sound c.variable_of.ensures
