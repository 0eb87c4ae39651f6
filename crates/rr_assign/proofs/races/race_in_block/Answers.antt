use Rattle.std.proofs.Common.{◌∙◌, ◌++◌, ap, map}
use Rattle.std.specs.Prelude.{flat_map}
use Rattle.rr_syntax.specs.View.{plain_identifier, plain_statement}
use Rattle.rr_flat.specs.Reads.{names_read}
use Rattle.rr_flat.specs.View.{plain_flat}
use Rattle.rr_text_names.specs.Firsts.{earliest}
use Rattle.rr_assign.specs.Races.{race_of}
use Rattle.rr_assign.proofs.races.race_in_block.Goals as goal

pub returns : goal.returns
returns c ws h =
    c.first_race_of.ensures ws h
    ∙ ap (λ z. earliest (flat_map (race_of (plain_flat c.args.flat.now) ws c.args.number c.args.block.now.scope) z))
    (ap (map plain_identifier) c.as_slice.ensures.value ∙ (c.in_ok-add_read_names.ensures ∙ ap (λ z. map plain_identifier z ++ names_read (plain_statement c.args.block.now.body.now)) c.new-names.ensures.items))
