use Rattle.std.proofs.Common.{◌∙◌, ◌++◌, ap, subst, map}
use Rattle.rr_syntax.specs.View.{plain_statement}
use Rattle.rr_flat.specs.Reads.{assigned_by}
use Rattle.rr_flat.specs.View.{plain_flat}
use Rattle.rr_text_names.specs.View.{plain_target}
use Rattle.rr_assign.specs.Races.{HoldsWriters, writer_of, writer_table}
use Rattle.rr_assign.proofs.races.note_block.Goals as goal

pub returns-clause-held : goal.returns-clause-held
returns-clause-held c ws h =
    subst (λ z. HoldsWriters (ws ++ map (writer_of (plain_flat c.args.flat.now) c.args.block.now.scope c.args.number) z) (writer_table c.note_writers.new.writers.items))
    (ap (map plain_target) c.as_slice.ensures.value ∙ (c.in_ok-add_assigned_targets.ensures ∙ ap (λ z. map plain_target z ++ assigned_by (plain_statement c.args.block.now.body.now)) c.new-targets.ensures.items)) (c.note_writers.ensures.held ws h)
